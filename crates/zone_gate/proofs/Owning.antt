-- Maps of threads to their entries
use Rattle.std.proofs.Common.{◌≡◌, ◌⊎◌, ℕ, List, [], ◌∷◌, ◌++◌, All, refl, ap, sym, ◌∙◌, ⊎_elim, inl, inr, append-nil}
use mathlib.Core.List.{IsPrefix}
use Rattle.zone_model.specs.declared.entry.Entry.{Entry}
use Rattle.zone_model.specs.History.{entries_of}
use Rattle.zone_gate.specs.declared.view.Owned.{Owned}
use Rattle.zone_gate.specs.Owning.{Distinct, HasThread, OwnIn, fresh}
use Rattle.zone_gate.proofs.Begins.{entries_append, entries_between, entries_none}

pub HasThread-append : (t : ℕ) (a b : List Owned) → HasThread t (a ++ b) → HasThread t a ⊎ HasThread t b
HasThread-append t [] b h = inr h
HasThread-append t (x ∷ xs) b (inl e) = inl (inl e)
HasThread-append t (x ∷ xs) b (inr h) = ⊎_elim (λ (l : HasThread t xs). inl (inr l)) (λ (r : HasThread t b). inr r) (HasThread-append t xs b h)

pub Distinct-append : (a b : List Owned) → Distinct a → Distinct b → ((t : ℕ) → HasThread t a → HasThread t b → ⊥) → Distinct (a ++ b)
Distinct-append [] b da db n = db
Distinct-append (x ∷ xs) b da db n =
    ((λ h. ⊎_elim (λ (l : HasThread x.thread xs). da.0 l) (λ (r : HasThread x.thread b). n x.thread (inl refl) r) (HasThread-append x.thread xs b h)), Distinct-append xs b da.1 db (λ t l r. n t (inr l) r))

pub OwnIn-append : (list : List Entry) (a b : List Owned) → OwnIn list a → OwnIn list b → OwnIn list (a ++ b)
OwnIn-append list [] b oa ob = ob
OwnIn-append list (x ∷ xs) b oa ob = (oa.0, OwnIn-append list xs b oa.1 ob)

pub OwnIn-between : (own : List Owned) (xs ys zs : List Entry) → IsPrefix xs ys → IsPrefix ys zs → OwnIn xs own → OwnIn zs own → OwnIn ys own
OwnIn-between [] xs ys zs p q a b = tt
OwnIn-between (x ∷ more) xs ys zs p q a b = (a.0 ∙ entries_between x.thread xs ys zs p q (sym a.0 ∙ b.0), OwnIn-between more xs ys zs p q a.1 b.1)

-- entries of a thread that is none of the map's leave the map as it was
pub OwnIn-others : (own : List Owned) (list new : List Entry) (t : ℕ) → ¬ HasThread t own → All (λ e. e.thread ≡ t) new → OwnIn list own → OwnIn (list ++ new) own
OwnIn-others [] list new t n all o = tt
OwnIn-others (x ∷ more) list new t n all o = (
  o.0 ∙ (sym (append-nil (entries_of x.thread list)) ∙ (ap (λ l. entries_of x.thread list ++ l) (sym (entries_none t x.thread new (λ e. n (inl (sym e))) all)) ∙ sym (entries_append x.thread list new))),
  OwnIn-others more list new t (λ h. n (inr h)) all o.1,
)

pub OwnIn-fresh : (ts : List ℕ) → OwnIn [] (fresh ts)
OwnIn-fresh [] = tt
OwnIn-fresh (t ∷ ts) = (refl, OwnIn-fresh ts)
