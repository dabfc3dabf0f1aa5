-- A sorted list in which each block that stands several times is left once
use Rattle.std.proofs.Common.{◌≡◌, Bool, true, false, ◌||◌, cond, List, [], ◌∷◌, refl, sym, ap, ◌∙◌, subst}
use Rattle.std.specs.List.{dedup, dedup_from}
use Rattle.std.specs.List.Sorted.{IsSorted, IsStrictlySortedBy, IsPermutation}
use Rattle.std.specs.List.Retain.{IsFiltered, DiffersFromLast}
use Rattle.std.proofs.lemmas.List.Filters.{dedup_is}
use Rattle.std.proofs.lemmas.List.Kept.{IsStrictlySortedBy-dedup}
use Rattle.std.proofs.lemmas.List.Sorted.{list_any-IsPermutation}
use Rattle.az_base.specs.declared.block_id.BlockId.{BlockId}
use Rattle.az_base.specs.Ids.{id_cmp, id_eq, same_id, among, ids_total}
use Rattle.az_base.proofs.Ids.{eq_ids, eq_is}

or_once : (b c : Bool) → (b || c) ≡ (b || (b || c))
or_once true c = refl
or_once false c = refl

left_once : (k : BlockId) (xs : List BlockId) (b : BlockId) → among (dedup_from id_eq k xs) b ≡ (same_id b k || among xs b)
left_once k [] b = refl
left_once k (x ∷ xs) b = go (id_eq x k) refl (left_once k xs b) (left_once x xs b)
  where
    go : (t : Bool) → id_eq x k ≡ t → among (dedup_from id_eq k xs) b ≡ (same_id b k || among xs b) → among (dedup_from id_eq x xs) b ≡ (same_id b x || among xs b)
        → among (cond t (dedup_from id_eq k xs) (k ∷ dedup_from id_eq x xs)) b ≡ (same_id b k || (same_id b x || among xs b))
    go true e f g = f ∙ or_once (same_id b k) (among xs b) ∙ ap (λ y. same_id b k || (same_id b y || among xs b)) (sym (eq_is x k e))
    go false e f g = ap (λ c. same_id b k || c) g

among_once : (xs : List BlockId) (b : BlockId) → among (dedup id_eq xs) b ≡ among xs b
among_once [] b = refl
among_once (x ∷ xs) b = left_once x xs b

pub once_among : (xs ys zs : List BlockId) → IsPermutation xs ys → IsFiltered (DiffersFromLast id_eq) [] ys zs → (b : BlockId) → among zs b ≡ among xs b
once_among xs ys zs p f b = ap (λ l. among l b) (dedup_is id_eq ys zs f) ∙ among_once ys b ∙ sym (list_any-IsPermutation (same_id b) xs ys p)

pub once_sorted : (ys zs : List BlockId) → IsSorted id_cmp ys → IsFiltered (DiffersFromLast id_eq) [] ys zs → IsStrictlySortedBy id_cmp zs
once_sorted ys zs s f = subst (IsStrictlySortedBy id_cmp) (sym (dedup_is id_eq ys zs f)) (IsStrictlySortedBy-dedup ids_total eq_ids ys s)
