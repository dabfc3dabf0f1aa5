-- The least id that isn't below another one
use Rattle.std.proofs.Common.{◌≡◌, ℕ, ◌+◌, Bool, true, false, not, ◌||◌, List, [], ◌∷◌, ◌++◌, take, slice_get, Option, Some, None, refl, sym, ap, subst, ◌∙◌, true≢false, if◌then◌else◌, arith, suc, inl, inr}
use Rattle.std.proofs.Math.Seq.{take-suc}
use Rattle.std.proofs.lemmas.Option.{get_or_from_slice_get, slice_get_within}
use Rattle.std.specs.declared.cmp.Ordering.{Ordering}
use Rattle.std.specs.declared.cmp.Ordering.TheVariants.{Less, Equal, Greater}
use Rattle.std.specs.Ordering.{is_lt}
use Rattle.std.specs.Cmp.{tied_itself}
use Rattle.std.specs.FinMap.{FinMap}
use Rattle.az_base.specs.declared.block_id.BlockId.{BlockId}
use Rattle.az_base.specs.Ids.{id_cmp, ids_total, among}
use Rattle.az_base.proofs.Ids.{among_cases, among_kept, among_last}
use Rattle.retain_table.specs.Counted.{comes_before, nearer_of, IsOrder, IsNextHeld}

-- it is the least of these ids that isn't below the first
abbrev pub IsNearest : BlockId → List BlockId → Option BlockId → Type 0
IsNearest from ids None = (q : BlockId) → among ids q ≡ true → comes_before q from ≡ true
IsNearest from ids (Some id) =
    (among ids id ≡ true) × (comes_before id from ≡ false) × ((q : BlockId) → among ids q ≡ true → comes_before q from ≡ false → comes_before q id ≡ false)

less : (r : Ordering) → is_lt r ≡ true → r ≡ Less
less Less e = refl
less Equal e = cc
less Greater e = cc

not_before_itself : (a : BlockId) → comes_before a a ≡ false
not_before_itself a = ap is_lt (tied_itself ids_total a)

before_both : (a b c : BlockId) → comes_before a b ≡ true → comes_before b c ≡ true → comes_before a c ≡ true
before_both a b c e f = ap is_lt (ids_total.trans a b c (less _ e) (less _ f))

-- among a list with one more at its end
either : (ids : List BlockId) (x q : BlockId) → among (ids ++ x ∷ []) q ≡ true → (P : Type 0) → (among ids q ≡ true → P) → (q ≡ x → P) → P
either ids x q h P early last = elim (among_cases ids x q h) [ inl g ↦ early g | inr s ↦ last s ]

pub nearest-more : (from : BlockId) (ids : List BlockId) (next : Option BlockId) (x : BlockId) → IsNearest from ids next → IsNearest from (ids ++ x ∷ []) (nearer_of from next x)
nearest-more from ids None x was = by (comes_before x from) refl
  where
    by : (b : Bool) → comes_before x from ≡ b → IsNearest from (ids ++ x ∷ []) (if b then None else Some x)
    by true e = λ q h. either ids x q h (comes_before q from ≡ true) (was q) (λ s. ap (λ y. comes_before y from) s ∙ e)
    by false e = (among_last ids x, e, λ q h f. either ids x q h (comes_before q x ≡ false) (λ g. absurd (true≢false (sym (was q g) ∙ f))) (λ s. ap (λ y. comes_before y x) s ∙ not_before_itself x))
nearest-more from ids (Some y) x was = by (comes_before x from) refl (comes_before x y) refl
  where
    by : (b : Bool) → comes_before x from ≡ b → (d : Bool) → comes_before x y ≡ d → IsNearest from (ids ++ x ∷ []) (if b || not d then Some y else Some x)
    by true e d g = (among_kept ids x y was.0, was.1, λ q h f. either ids x q h (comes_before q y ≡ false) (λ k. was.2 q k f) (λ s. absurd (true≢false (sym e ∙ sym (ap (λ z. comes_before z from) s) ∙ f))))
    by false e false g = (among_kept ids x y was.0, was.1, λ q h f. either ids x q h (comes_before q y ≡ false) (λ k. was.2 q k f) (λ s. ap (λ z. comes_before z y) s ∙ g))
    by false e true g = (among_last ids x, e, λ q h f. either ids x q h (comes_before q x ≡ false) (λ k. later q k f (comes_before q x) refl) (λ s. ap (λ z. comes_before z x) s ∙ not_before_itself x))
      where
        later : (q : BlockId) → among ids q ≡ true → comes_before q from ≡ false → (t : Bool) → comes_before q x ≡ t → comes_before q x ≡ false
        later q k f true t = absurd (true≢false (sym (before_both q x y t g) ∙ was.2 q k f))
        later q k f false t = t

-- one more is looked at
pub nearest-next : (from : BlockId) (ids : List BlockId) (n : ℕ) (next : Option BlockId) (x : BlockId) → slice_get ids n ≡ Some x → IsNearest from (take n ids) next → IsNearest from (take (n + 1) ids) (nearer_of from next x)
nearest-next from ids n next x there was =
    subst (λ xs. IsNearest from xs (nearer_of from next x))
    (ap (λ y. take n ids ++ y ∷ []) (sym (get_or_from_slice_get ids n x x there)) ∙ sym (take-suc ids n x (slice_get_within ids n x there)) ∙ ap (λ k. take k ids) (one_more n))
    (nearest-more from (take n ids) next x was)
  where
    one_more : (n : ℕ) → suc n ≡ n + 1
    one_more n = omega arith

pub nearest-held : (counts : FinMap id_cmp ℕ) (order : List BlockId) (from : BlockId) (next : Option BlockId) → IsOrder counts order → IsNearest from order next → IsNextHeld counts from next
nearest-held counts order from None all near = λ q h. near q (all.counted q ∙ h)
nearest-held counts order from (Some id) all near = (sym (all.counted id) ∙ near.0, near.1, λ q h f. near.2 q (all.counted q ∙ h) f)
