-- A list without repeats, sorted in place
use Rattle.std.proofs.Common.{◌≡◌, ℕ, suc, ◌<◌, ◌≤◌, Bool, true, false, List, [], ◌∷◌, refl, sym, ap, ◌∙◌, subst, arith, length, slice_index_or, inl, inr, filter}
use Rattle.std.specs.declared.cmp.Ordering.{Ordering}
use Rattle.std.specs.declared.cmp.Ordering.TheVariants.{Less, Equal, Greater}
use Rattle.std.specs.Ordering.{is_lt, is_eq, ordering_reverse}
use Rattle.std.specs.Cmp.{eq_by_cmp_equiv}
use Rattle.std.specs.List.{AllByRecursion, IsDistinct}
use Rattle.std.specs.List.Sorted.{IsStrictlySortedBy, IsSorted, IsPermutation}
use Rattle.std.proofs.lemmas.List.Sorted.{sorted_far, ranks_by, list_any-IsPermutation}
use Rattle.std.proofs.lemmas.Map.Keys.{IsDistinct-IsPermutation}
use Rattle.az_base.specs.declared.block_id.BlockId.{BlockId}
use Rattle.az_base.specs.Ids.{id_cmp, same_id, among, ids_total, exact_ids}
use Rattle.quantum_space.specs.Shapes.{Has, Once}
use Rattle.quantum_space.proofs.Lists.{same_or_not, itself, has_filter}

not_one : (x : BlockId) (xs : List BlockId) → ¬ Has xs x → AllByRecursion (λ y. same_id x y ≡ false) xs
not_one x [] n = tt
not_one x (y ∷ ys) n = (elim (same_or_not x y) [ inl e ↦ absurd (n (inl (sym e))) | inr k ↦ k.1 ], not_one x ys (λ h. n (inr h)))

one_not : (x : BlockId) (xs : List BlockId) → AllByRecursion (λ y. same_id x y ≡ false) xs → ¬ Has xs x
one_not x [] a h = h
one_not x (y ∷ ys) a (inl e) = let k : same_id x x ≡ false = subst (λ z. same_id x z ≡ false) e a.0 in let t = itself x in cc
one_not x (y ∷ ys) a (inr h) = one_not x ys a.1 h

once_distinct : (xs : List BlockId) → Once xs → IsDistinct same_id xs
unfolding IsDistinct
once_distinct [] o = tt
once_distinct (x ∷ xs) o = (not_one x xs o.0, once_distinct xs o.1)

distinct_once : (xs : List BlockId) → IsDistinct same_id xs → Once xs
unfolding IsDistinct
distinct_once [] d = tt
distinct_once (x ∷ xs) d = (one_not x xs d.0, distinct_once xs d.1)

-- what isn't above and isn't the same is below
below : (x y : BlockId) → is_lt (id_cmp y x) ≡ false → (x ≡ y → ⊥) → id_cmp x y ≡ Less
below x y up apart = go (id_cmp x y) refl
  where
    go : (r : Ordering) → id_cmp x y ≡ r → id_cmp x y ≡ Less
    go Less e = e
    go Equal e = absurd (apart (exact_ids x y e))
    go Greater e = let down : id_cmp y x ≡ Less = ids_total.antisymm y x ∙ ap ordering_reverse e in let t : is_lt (id_cmp y x) ≡ true = ap is_lt down in cc

above : (x : BlockId) (xs : List BlockId) → ((j : ℕ) (d : BlockId) → j < length xs → is_lt (id_cmp (slice_index_or xs j d) x) ≡ false) → ¬ Has xs x → AllByRecursion (λ y. id_cmp x y ≡ Less) xs
above x [] up n = tt
above x (y ∷ ys) up n = (below x y (up 0 y (omega arith)) (λ e. n (inl (sym e))), above x ys (λ j d l. up (suc j) d (omega (arith, l))) (λ h. n (inr h)))

strict : (xs : List BlockId) → ((i j : ℕ) (d : BlockId) → i ≤ j → j < length xs → is_lt (id_cmp (slice_index_or xs j d) (slice_index_or xs i d)) ≡ false) → Once xs → IsStrictlySortedBy id_cmp xs
unfolding IsStrictlySortedBy
strict [] far o = tt
strict (x ∷ xs) far o = (above x xs (λ j d l. far 0 (suc j) d (omega arith) (omega (arith, l))) o.0, strict xs (λ i j d le l. far (suc i) (suc j) d (omega (arith, le)) (omega (arith, l))) o.1)

pub sorted_once : (xs ys : List BlockId) → Once xs → IsPermutation xs ys → IsSorted id_cmp ys → IsStrictlySortedBy id_cmp ys
sorted_once xs ys o p up =
    strict ys (sorted_far (λ x y. is_lt (id_cmp x y)) (ranks_by ids_total (λ (x : BlockId). x)) ys up)
    (distinct_once ys (IsDistinct-IsPermutation same_id (eq_by_cmp_equiv ids_total).symm xs ys p (once_distinct xs o)))

pub sorted_among : (xs ys : List BlockId) → IsPermutation xs ys → (b : BlockId) → among ys b ≡ among xs b
sorted_among xs ys p b = sym (list_any-IsPermutation (same_id b) xs ys p)

pub once_filter : (p : BlockId → Bool) (xs : List BlockId) → Once xs → Once (filter p xs)
once_filter p [] o = tt
once_filter p (x ∷ xs) o = go (once_filter p xs o.1) (p x) refl
  where
    go : Once (filter p xs) → (t : Bool) → p x ≡ t → Once (filter p (x ∷ xs))
    go rest true e = rw e ((λ h. o.0 (has_filter p xs x h).0), rest)
    go rest false e = rw e rest

all_above : (x : BlockId) (xs : List BlockId) (b : BlockId) → AllByRecursion (λ y. id_cmp x y ≡ Less) xs → Has xs b → id_cmp x b ≡ Less
all_above x [] b a h = absurd h
all_above x (y ∷ ys) b a (inl e) = subst (λ z. id_cmp x z ≡ Less) e a.0
all_above x (y ∷ ys) b a (inr h) = all_above x ys b a.1 h

not_below_itself : (x : BlockId) → id_cmp x x ≡ Less → ⊥
not_below_itself x e = let t : is_eq (id_cmp x x) ≡ false = ap is_eq e in let u : is_eq (id_cmp x x) ≡ true = itself x in cc

not_both : (x y : BlockId) → id_cmp x y ≡ Less → id_cmp y x ≡ Less → ⊥
not_both x y e f = let g : id_cmp y x ≡ Greater = ids_total.antisymm y x ∙ ap ordering_reverse e in cc

same_heads : (x : BlockId) (xs : List BlockId) (y : BlockId) (ys : List BlockId) → AllByRecursion (λ z. id_cmp x z ≡ Less) xs → AllByRecursion (λ z. id_cmp y z ≡ Less) ys → Has (y ∷ ys) x → Has (x ∷ xs) y → x ≡ y
same_heads x xs y ys s t (inl e) g = sym e
same_heads x xs y ys s t (inr h) (inl e) = e
same_heads x xs y ys s t (inr h) (inr k) = absurd (not_both x y (all_above x xs y s k) (all_above y ys x t h))

in_tail : (x : BlockId) (xs : List BlockId) (y : BlockId) (ys : List BlockId) → AllByRecursion (λ z. id_cmp x z ≡ Less) xs → x ≡ y → ((b : BlockId) → Has (x ∷ xs) b → Has (y ∷ ys) b) → (b : BlockId) → Has xs b → Has ys b
in_tail x xs y ys s e f b h = elim (f b (inr h)) [
  | inl q ↦ absurd (not_below_itself b (subst (λ z. id_cmp z b ≡ Less) (e ∙ q) (all_above x xs b s h)))
  | inr k ↦ k
]

-- ascending lists with the same blocks are one
pub same_sorted : (xs ys : List BlockId) → IsStrictlySortedBy id_cmp xs → IsStrictlySortedBy id_cmp ys → ((b : BlockId) → Has xs b → Has ys b) → ((b : BlockId) → Has ys b → Has xs b) → xs ≡ ys
unfolding IsStrictlySortedBy
same_sorted [] [] s t f g = refl
same_sorted [] (y ∷ ys) s t f g = absurd (g y (inl refl))
same_sorted (x ∷ xs) [] s t f g = absurd (f x (inl refl))
same_sorted (x ∷ xs) (y ∷ ys) s t f g =
    let e : x ≡ y = same_heads x xs y ys s.0 t.0 (f x (inl refl)) (g y (inl refl)) in
    ap (λ l. x ∷ l) (same_sorted xs ys s.1 t.1 (in_tail x xs y ys s.0 e f) (in_tail y ys x xs t.0 (sym e) g)) ∙ ap (λ z. z ∷ ys) e
