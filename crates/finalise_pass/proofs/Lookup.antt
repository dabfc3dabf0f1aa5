-- What a binary search says of an ascending list of ids
use Rattle.std.proofs.Common.{◌≡◌, ℕ, ◌+◌, ◌<◌, true, false, List, ap, ◌∙◌, length, slice_index_or, arith, inl, inr}
use Rattle.std.specs.declared.cmp.Ordering.TheVariants.{Less, Equal, Greater}
use Rattle.std.specs.Ordering.{is_lt, is_eq, ordering_reverse, ordering_index}
use Rattle.std.specs.List.{HoldsAt}
use Rattle.std.specs.List.Sorted.{IsStrictlySortedBy, IsNonDecreasingBy, IsPartitionPoint}
use Rattle.std.proofs.lemmas.Bool.{cases_lt}
use Rattle.std.proofs.lemmas.List.Folds.{list_any_at, list_any_none}
use Rattle.std.proofs.lemmas.List.Sorted.{searchable_from_sorted}
use Rattle.std.proofs.lemmas.Map.Keys.{Less-from_sorted}
use Rattle.az_base.specs.declared.block_id.BlockId.{BlockId}
use Rattle.az_base.specs.Ids.{id_cmp, same_id, among, ids_total}

-- two ids, compared the other way round
turned : (x y : BlockId) → is_eq (id_cmp x y) ≡ is_eq (ordering_reverse (id_cmp y x))
turned x y = ap is_eq (ids_total.antisymm x y)

-- a block at which the search ends is there
pub found_there : (id : BlockId) (xs : List BlockId) (i : ℕ) → i < length xs → HoldsAt (λ y. id_cmp y id ≡ Equal) xs i → among xs id ≡ true
found_there id xs i l h = list_any_at (same_id id) xs i id l (turned id (slice_index_or xs i id) ∙ ap (λ r. is_eq (ordering_reverse r)) (h id))

-- before the place all are below the block, and from there on above it
abbrev pub Splits : BlockId → List BlockId → ℕ → Type 0
Splits id xs i = IsPartitionPoint (λ y. id_cmp y id ≡ Less) (λ y. id_cmp y id ≡ Greater) xs i

-- so it isn't there
split_missed : (id : BlockId) (xs : List BlockId) (i : ℕ) → Splits id xs i → among xs id ≡ false
split_missed id xs i p =
    list_any_none (same_id id) xs (λ k d l. turned id (slice_index_or xs k d) ∙ elim (cases_lt k i) [
      | inl below ↦ ap (λ r. is_eq (ordering_reverse r)) (p.0 k d (omega arith) below)
      | inr above ↦ ap (λ r. is_eq (ordering_reverse r)) (p.1 k d above l)
    ])

-- a block that the search misses isn't in the ascending list
pub missed_nowhere : (id : BlockId) (xs : List BlockId) (i : ℕ) → IsStrictlySortedBy id_cmp xs → (IsNonDecreasingBy (λ y. ordering_index (id_cmp y id)) xs → Splits id xs i) → among xs id ≡ false
missed_nowhere id xs i s p =
    split_missed id xs i
    (p (searchable_from_sorted ids_total (λ (y : BlockId). y) xs id
    (λ k d a b. ap is_lt (ids_total.antisymm (slice_index_or xs (k + 1) d) (slice_index_or xs k d)) ∙ ap (λ r. is_lt (ordering_reverse r)) (Less-from_sorted id_cmp xs k (k + 1) d s (omega arith) b))))
