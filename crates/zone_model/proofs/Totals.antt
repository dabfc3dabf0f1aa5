-- Sums over finite maps, where an entry is put in and where entries are left out
use Rattle.std.proofs.Common.{◌≡◌, ℕ, ◌+◌, Bool, true, false, cond, T, List, [], ◌∷◌, Option, Some, None, refl, sym, ap, ◌∙◌, arith}
use Rattle.std.specs.declared.cmp.Ordering.{Ordering}
use Rattle.std.specs.declared.cmp.Ordering.TheVariants.{Less, Equal, Greater}
use Rattle.std.specs.Ordering.{is_eq}
use Rattle.std.specs.Cmp.{IsTotalOrder, tied_itself}
use Rattle.std.specs.FinMap.{FinMap, IsAntisymmetric, entries, entries_sorted, find, get, get-entries, get-retain_keys, insert, is_sorted, retain_keys}
use Rattle.std.specs.FinMap.Entries.{below_all, where_key, is_sorted-where_key, find-where_key, same_entries}
use Rattle.zone_model.specs.Maps.{total, list_total}
use Rattle.zone_model.proofs.MapLaws.{at_value, total-insert, first, second, find_below}

module _ {K X : Type 0} {R : K → K → Ordering} (o : IsTotalOrder R) (same : IsAntisymmetric R) where
  -- a sum after an entry was put in where there was none
  pub total_added : (f : K → X → ℕ) (m : FinMap R X) (k : K) (v : X) → get m k ≡ None → total f (insert m k v) ≡ total f m + f k v
  total_added f m k v none =
      let e : total f (insert m k v) + at_value (f k) (get m k) ≡ total f m + f k v = total-insert o same f m k v in
      let zero : at_value (f k) (get m k) ≡ 0 = ap (at_value (f k)) none in
      omega arith

  -- the entries that are left where some keys are left out
  entries-retain_keys : (m : FinMap R X) (p : K → Bool) → entries (retain_keys m p) ≡ where_key R p (entries m)
  entries-retain_keys m p =
      same_entries R o same (entries (retain_keys m p)) (where_key R p (entries m)) (entries_sorted (retain_keys m p)) (is_sorted-where_key R p (entries m) (entries_sorted m)) (λ q.
      let alike : (x : K) → R q x ≡ Equal → p x ≡ p q = λ x e. ap p (sym (same q x e)) in
      sym (get-entries (retain_keys m p) q) ∙ get-retain_keys m p q alike ∙ ap (λ (v : Option X). cond (p q) v None) (get-entries m q) ∙ sym (find-where_key R p q alike (entries m)))

  -- what is found in the rest of a list in order is found in the list
  found_later : (e : K × X) (es : List (K × X)) (k : K) (x : X) → T (below_all R e.0 es) → find R k es ≡ Some x → find R k (e ∷ es) ≡ Some x
  found_later e es k x below is =
      elim (R k e.0) as (λ r. R k e.0 ≡ r → cond (is_eq r) (Some e.1) (find R k es) ≡ Some x) [
        | Less ↦ λ t. is
        | Equal ↦ λ t. let none : None ≡ Some x = sym (find_below o e.0 es below) ∙ ap (λ q. find R q es) (sym (same k e.0 t)) ∙ is in cc (none)
        | Greater ↦ λ t. is
      ] refl

  -- what is left out counts 0
  left_out : (f : K → X → ℕ) (p : K → Bool) (es : List (K × X)) → T (is_sorted R es) → ((k : K) (x : X) → find R k es ≡ Some x → p k ≡ false → f k x ≡ 0)
      → list_total f (where_key R p es) ≡ list_total f es
  left_out f p [] h zero = refl
  left_out f p (e ∷ es) h zero =
      let rest : list_total f (where_key R p es) ≡ list_total f es = left_out f p es (second (below_all R e.0 es) (is_sorted R es) h) (λ k x is. zero k x (found_later e es k x (first (below_all R e.0 es) (is_sorted R es) h) is)) in
      elim (p e.0) as (λ b. p e.0 ≡ b → list_total f (cond b (e ∷ where_key R p es) (where_key R p es)) ≡ f e.0 e.1 + list_total f es) [
        | true ↦ λ t. ap (λ n. f e.0 e.1 + n) rest
        | false ↦ λ t. let none : f e.0 e.1 ≡ 0 = zero e.0 e.1 (ap (λ r. cond (is_eq r) (Some e.1) (find R e.0 es)) (tied_itself o e.0)) t in omega (arith, rest)
      ] refl

  -- a sum stays where the entries that are left out count 0
  pub total-retain_keys : (f : K → X → ℕ) (m : FinMap R X) (p : K → Bool) → ((k : K) (x : X) → get m k ≡ Some x → p k ≡ false → f k x ≡ 0) → total f (retain_keys m p) ≡ total f m
  unfolding total
  total-retain_keys f m p zero =
      ap (list_total f) (entries-retain_keys m p)
      ∙ left_out f p (entries m) (entries_sorted m) (λ k x is. zero k x (get-entries m k ∙ is))
