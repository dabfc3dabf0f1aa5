-- A block is put into an ascending list, or taken out of it, where a search finds its place
use Rattle.std.proofs.Common.{◌≡◌, ℕ, zero, suc, ◌+◌, ◌<◌, Bool, true, false, not, ◌||◌, cond, List, [], ◌∷◌, refl, sym, ap, ◌∙◌, subst, arith, length, slice_index_or}
use Rattle.std.specs.Prelude.{insert, remove}
use Rattle.std.specs.declared.cmp.Ordering.{Ordering}
use Rattle.std.specs.declared.cmp.Ordering.TheVariants.{Less, Equal, Greater}
use Rattle.std.specs.Ordering.{is_lt, is_eq, ordering_reverse, ordering_index}
use Rattle.std.specs.List.{AllByRecursion, HoldsAt}
use Rattle.std.specs.List.Sorted.{IsSorted, IsStrictlySortedBy, IsNonDecreasingBy, IsPartitionPoint}
use Rattle.std.proofs.lemmas.List.Sorted.{searchable_from_sorted}
use Rattle.std.proofs.lemmas.List.Kept.{IsStrictlySortedBy-filter}
use Rattle.std.proofs.lemmas.Map.Keys.{Less-from_sorted}
use Rattle.az_base.specs.declared.block_id.BlockId.{BlockId}
use Rattle.az_base.specs.Ids.{id_cmp, same_id, among, ids_total, exact_ids}
use Rattle.write_barrier.specs.Remembered.{placed, with_block, without_block}

turned : (x y : BlockId) (r : Ordering) → id_cmp x y ≡ r → id_cmp y x ≡ ordering_reverse r
turned x y r e = ids_total.antisymm y x ∙ ap ordering_reverse e

below_there : (x : BlockId) (xs : List BlockId) (i : ℕ) (d : BlockId) → AllByRecursion (λ y. id_cmp x y ≡ Less) xs → i < length xs → id_cmp x (slice_index_or xs i d) ≡ Less
below_there x [] i d a l = absurd (omega (arith, l))
below_there x (y ∷ ys) zero d a l = a.0
below_there x (y ∷ ys) (suc i) d a l = below_there x ys i d a.1 (omega (arith, l))

pub with_there : (id : BlockId) (xs : List BlockId) (i : ℕ) → IsStrictlySortedBy id_cmp xs → i < length xs → HoldsAt (λ y. id_cmp y id ≡ Equal) xs i → with_block id xs ≡ xs
unfolding IsStrictlySortedBy
with_there id [] i s l h = absurd (omega (arith, l))
with_there id (x ∷ xs) zero s l h = ap (λ r. placed r id x xs (with_block id xs)) (turned x id Equal (h id))
with_there id (x ∷ xs) (suc i) s l h =
    let up : id_cmp x id ≡ Less = subst (λ y. id_cmp x y ≡ Less) (exact_ids _ id (h id)) (below_there x xs i id s.0 (omega (arith, l))) in
    ap (λ r. placed r id x xs (with_block id xs)) (turned x id Less up) ∙ ap (λ ys. x ∷ ys) (with_there id xs i s.1 (omega (arith, l)) h)

or_true : (b : Bool) → (b || true) ≡ true
or_true true = refl
or_true false = refl

pub among_there : (id : BlockId) (xs : List BlockId) (i : ℕ) → i < length xs → HoldsAt (λ y. id_cmp y id ≡ Equal) xs i → among xs id ≡ true
among_there id [] i l h = absurd (omega (arith, l))
among_there id (x ∷ xs) zero l h = ap (λ r. is_eq r || among xs id) (turned x id Equal (h id))
among_there id (x ∷ xs) (suc i) l h = ap (λ b. same_id id x || b) (among_there id xs i (omega (arith, l)) h) ∙ or_true (same_id id x)

-- before the place all are below the block, and from there on above it
abbrev pub Parts : BlockId → List BlockId → ℕ → Type 0
Parts id xs i = IsPartitionPoint (λ y. id_cmp y id ≡ Less) (λ y. id_cmp y id ≡ Greater) xs i

rest_parts : (id x : BlockId) (xs : List BlockId) (i : ℕ) → Parts id (x ∷ xs) (suc i) → Parts id xs i
rest_parts id x xs i p = (λ k d a b. p.0 (suc k) d (omega arith) (omega (arith, b)), λ k d a b. p.1 (suc k) d (omega (arith, a)) (omega (arith, b)))

pub with_new : (id : BlockId) (xs : List BlockId) (i : ℕ) → Parts id xs i → insert xs i id ≡ with_block id xs
with_new id [] zero p = refl
with_new id [] (suc i) p = refl
with_new id (x ∷ xs) zero p = sym (ap (λ r. placed r id x xs (with_block id xs)) (turned x id Greater (p.1 0 id (omega arith) (omega arith))))
with_new id (x ∷ xs) (suc i) p =
    ap (λ ys. x ∷ ys) (with_new id xs i (rest_parts id x xs i p))
    ∙ sym (ap (λ r. placed r id x xs (with_block id xs)) (turned x id Less (p.0 0 id (omega arith) (omega arith))))

first_parts : (id x : BlockId) (xs : List BlockId) → Parts id (x ∷ xs) 0 → Parts id xs 0
first_parts id x xs p = (λ k d a b. absurd (omega (arith, b)), λ k d a b. p.1 (suc k) d (omega arith) (omega (arith, b)))

pub among_new : (id : BlockId) (xs : List BlockId) (i : ℕ) → Parts id xs i → among xs id ≡ false
among_new id [] i p = refl
among_new id (x ∷ xs) zero p = ap (λ r. is_eq r || among xs id) (turned x id Greater (p.1 0 id (omega arith) (omega arith))) ∙ among_new id xs zero (first_parts id x xs p)
among_new id (x ∷ xs) (suc i) p = ap (λ r. is_eq r || among xs id) (turned x id Less (p.0 0 id (omega arith) (omega arith))) ∙ among_new id xs i (rest_parts id x xs i p)

sorted_again : (xs : List BlockId) → IsStrictlySortedBy id_cmp xs → IsSorted id_cmp xs
sorted_again xs s k d a b = ap is_lt (turned (slice_index_or xs k d) (slice_index_or xs (k + 1) d) Less (Less-from_sorted id_cmp xs k (k + 1) d s (omega arith) b))

-- what a search that ends without the block says of an ascending list
pub parts : (id : BlockId) (xs : List BlockId) (i : ℕ) → IsStrictlySortedBy id_cmp xs → (IsNonDecreasingBy (λ y. ordering_index (id_cmp y id)) xs → Parts id xs i) → Parts id xs i
parts id xs i s p = p (searchable_from_sorted ids_total (λ (y : BlockId). y) xs id (sorted_again xs s))

all_with : (P : BlockId → Type 0) (id : BlockId) (xs : List BlockId) → P id → AllByRecursion P xs → AllByRecursion P (with_block id xs)
all_with P id [] p a = (p, tt)
all_with P id (x ∷ xs) p a = go (id_cmp id x) (all_with P id xs p a.1)
  where
    go : (r : Ordering) → AllByRecursion P (with_block id xs) → AllByRecursion P (placed r id x xs (with_block id xs))
    go Less more = (p, (a.0, a.1))
    go Equal more = (a.0, a.1)
    go Greater more = (a.0, more)

all_above : (id x : BlockId) (xs : List BlockId) → id_cmp id x ≡ Less → AllByRecursion (λ y. id_cmp x y ≡ Less) xs → AllByRecursion (λ y. id_cmp id y ≡ Less) xs
all_above id x [] l a = tt
all_above id x (y ∷ ys) l a = (ids_total.trans id x y l a.0, all_above id x ys l a.1)

-- it ascends with the block
pub sorted_with : (id : BlockId) (xs : List BlockId) → IsStrictlySortedBy id_cmp xs → IsStrictlySortedBy id_cmp (with_block id xs)
unfolding IsStrictlySortedBy
sorted_with id [] s = (tt, tt)
sorted_with id (x ∷ xs) s = go (id_cmp id x) refl (sorted_with id xs s.1)
  where
    go : (r : Ordering) → id_cmp id x ≡ r → IsStrictlySortedBy id_cmp (with_block id xs) → IsStrictlySortedBy id_cmp (placed r id x xs (with_block id xs))
    go Less e more = ((e, all_above id x xs e s.0), s)
    go Equal e more = s
    go Greater e more = (all_with (λ y. id_cmp x y ≡ Less) id xs (turned id x Greater e) s.0, more)

kept_all : (id : BlockId) (xs : List BlockId) → AllByRecursion (λ y. id_cmp id y ≡ Less) xs → without_block id xs ≡ xs
kept_all id [] a = refl
kept_all id (x ∷ xs) a = ap (λ b. cond (not b) (x ∷ without_block id xs) (without_block id xs)) (ap is_eq a.0) ∙ ap (λ ys. x ∷ ys) (kept_all id xs a.1)

pub without_there : (id : BlockId) (xs : List BlockId) (i : ℕ) → IsStrictlySortedBy id_cmp xs → i < length xs → HoldsAt (λ y. id_cmp y id ≡ Equal) xs i → remove xs i ≡ without_block id xs
unfolding IsStrictlySortedBy
without_there id [] i s l h = absurd (omega (arith, l))
without_there id (x ∷ xs) zero s l h =
    sym (ap (λ r. cond (not (is_eq r)) (x ∷ without_block id xs) (without_block id xs)) (turned x id Equal (h id))
    ∙ kept_all id xs (subst (λ y. AllByRecursion (λ z. id_cmp y z ≡ Less) xs) (exact_ids x id (h id)) s.0))
without_there id (x ∷ xs) (suc i) s l h =
    let up : id_cmp x id ≡ Less = subst (λ y. id_cmp x y ≡ Less) (exact_ids _ id (h id)) (below_there x xs i id s.0 (omega (arith, l))) in
    ap (λ ys. x ∷ ys) (without_there id xs i s.1 (omega (arith, l)) h)
    ∙ sym (ap (λ r. cond (not (is_eq r)) (x ∷ without_block id xs) (without_block id xs)) (turned x id Less up))

pub without_none : (id : BlockId) (xs : List BlockId) → among xs id ≡ false → xs ≡ without_block id xs
without_none id [] n = refl
without_none id (x ∷ xs) n = go (same_id id x) refl (without_none id xs)
  where
    go : (b : Bool) → same_id id x ≡ b → (among xs id ≡ false → xs ≡ without_block id xs) → x ∷ xs ≡ cond (not (same_id id x)) (x ∷ without_block id xs) (without_block id xs)
    go true e f = let t : among (x ∷ xs) id ≡ true = ap (λ b. b || among xs id) e in cc
    go false e f =
        let m : among xs id ≡ false = sym (ap (λ b. b || among xs id) e) ∙ n in
        ap (λ ys. x ∷ ys) (f m) ∙ sym (ap (λ b. cond (not b) (x ∷ without_block id xs) (without_block id xs)) e)

-- and without it
pub sorted_without : (id : BlockId) (xs : List BlockId) → IsStrictlySortedBy id_cmp xs → IsStrictlySortedBy id_cmp (without_block id xs)
sorted_without id xs s = IsStrictlySortedBy-filter id_cmp (λ b. not (same_id id b)) xs s

-- the same of what a search read, which is the list
pub read_parts : (id : BlockId) (xs ys : List BlockId) (i : ℕ) → ys ≡ xs → IsStrictlySortedBy id_cmp xs → (IsNonDecreasingBy (λ y. ordering_index (id_cmp y id)) ys → Parts id ys i) → Parts id xs i
read_parts id xs ys i e s p = parts id xs i s (subst (λ zs. IsNonDecreasingBy (λ y. ordering_index (id_cmp y id)) zs → Parts id zs i) e p)

-- where the search ends at the block
abbrev pub IsAt : BlockId → List BlockId → ℕ → Type 0
IsAt id xs i = (i < length xs) × HoldsAt (λ y. id_cmp y id ≡ Equal) xs i

pub read_at : (id : BlockId) (xs ys : List BlockId) (i : ℕ) → ys ≡ xs → i < length ys → HoldsAt (λ y. id_cmp y id ≡ Equal) ys i → IsAt id xs i
read_at id xs ys i e l h = subst (λ zs. IsAt id zs i) e (l, h)
