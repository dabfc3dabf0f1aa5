-- What was followed, in the order of ids
use Rattle.std.proofs.Common.{◌≡◌, ℕ, ◌+◌, ◌<◌, ◌≤◌, zero, suc, Bool, true, false, ◌||◌, List, [], ◌∷◌, ◌++◌, length, take, map, All, Option, Some, slice_get, sum_by, slice_index_or, refl, sym, ap, subst, ◌∙◌, arith}
use Rattle.std.proofs.lemmas.List.Sorted.{list_any-IsPermutation, IsPermutation-map, All-permutation, sum_by-IsPermutation}
use Rattle.std.proofs.lemmas.List.{length-map}
use Rattle.std.proofs.lemmas.List.Sums.{sum_by-cons}
use Rattle.std.proofs.lemmas.Map.Keys.{IsDistinct-cons, IsDistinct-IsPermutation}
use Rattle.std.specs.List.{IsDistinct, AllByRecursion, list_any}
use Rattle.std.specs.List.Sorted.{IsSorted, IsStrictlySortedBy, IsPermutation}
use Rattle.std.specs.Map.{keys_of, values_of}
use Rattle.std.specs.FinMap.{FinMap}
use Rattle.std.specs.declared.cmp.Ordering.{Ordering}
use Rattle.std.specs.declared.cmp.Ordering.TheVariants.{Less, Equal, Greater}
use Rattle.std.specs.Ordering.{is_lt, nat_cmp, ordering_then}
use Rattle.az_base.specs.declared.block_id.BlockId.{BlockId}
use Rattle.az_base.specs.Ids.{id_cmp, id_of, among, same_id}
use Rattle.az_base.proofs.Ids.{same_turned}
use Rattle.zone_model.specs.Part.{Part}
use Rattle.zone_model.specs.State.{Block}
use Rattle.block_table.specs.Table.{used_by}
use Rattle.shared_heap.specs.Shared.{Shared}
use Rattle.local_set.specs.Tables.{Distinct}
use Rattle.local_set.proofs.Lists.{next_taken}
use Rattle.local_set.proofs.Sorting.{strict}
use Rattle.escape_plan.specs.Planning.{Plan, Plans, length_at, quanta_at, lengths_of, sum_of}
use Rattle.escape_plan.specs.Searching.{Found}

-- the order of blocks with their lengths
abbrev pub pair_cmp : BlockId × ℕ → BlockId × ℕ → Ordering
pair_cmp a b = ordering_then (id_cmp a.0 b.0) (nat_cmp a.1 b.1)

-- one block more, in a loop
pub keys_next : (bs : List (BlockId × ℕ)) (i : ℕ) (b : BlockId × ℕ) → slice_get bs i ≡ Some b → keys_of (take i bs) ++ b.0 ∷ [] ≡ keys_of (take (i + 1) bs)
keys_next bs i b at = sym (more (take i bs)) ∙ ap (λ (l : List (BlockId × ℕ)). keys_of l) (next_taken bs i b at)
  where
    more : (l : List (BlockId × ℕ)) → keys_of (l ++ b ∷ []) ≡ keys_of l ++ b.0 ∷ []
    more [] = refl
    more (x ∷ l) = ap (λ k. x.0 ∷ k) (more l)

pub values_next : (bs : List (BlockId × ℕ)) (i : ℕ) (b : BlockId × ℕ) → slice_get bs i ≡ Some b → values_of (take i bs) ++ b.1 ∷ [] ≡ values_of (take (i + 1) bs)
values_next bs i b at = sym (more (take i bs)) ∙ ap (λ (l : List (BlockId × ℕ)). values_of l) (next_taken bs i b at)
  where
    more : (l : List (BlockId × ℕ)) → values_of (l ++ b ∷ []) ≡ values_of l ++ b.1 ∷ []
    more [] = refl
    more (x ∷ l) = ap (λ k. x.1 ∷ k) (more l)

none_same : (id : BlockId) (ids : List BlockId) → among ids id ≡ false → AllByRecursion (λ y. same_id id y ≡ false) ids
none_same id [] h = tt
none_same id (x ∷ ids) h = let both = split (same_id id x) (among ids id) h in (both.0, none_same id ids both.1)
  where
    split : (a b : Bool) → (a || b) ≡ false → (a ≡ false) × (b ≡ false)
    split true b h = cc
    split false b h = (refl, h)

-- ids of which none stands twice
distinct_is : (ids : List BlockId) → Distinct ids → IsDistinct same_id ids
unfolding IsDistinct
distinct_is [] d = tt
distinct_is (x ∷ ids) d = (none_same x ids d.0, distinct_is ids d.1)

-- pairs in their order have their ids in order
keys_sorted : (es : List (BlockId × ℕ)) → IsSorted pair_cmp es → IsSorted id_cmp (keys_of es)
keys_sorted es sorted k d low l = ap is_lt (λ i. id_cmp (at_key es (k + 1) d i) (at_key es k d i)) ∙ not_less _ _ (sorted k (d, 0) low (let same : length (keys_of es) ≡ length es = length-map es (λ (e : BlockId × ℕ). e.0) in omega (arith, l, same)))
  where
    at_key : (es : List (BlockId × ℕ)) (k : ℕ) (d : BlockId) → slice_index_or (keys_of es) k d ≡ (slice_index_or es k (d, 0)).0
    at_key [] k d = refl
    at_key (e ∷ es) zero d = refl
    at_key (e ∷ es) (suc k) d = at_key es k d

    not_less : (r o : Ordering) → is_lt (ordering_then r o) ≡ false → is_lt r ≡ false
    not_less Less o h = h
    not_less Equal o h = refl
    not_less Greater o h = refl

lengths_are : (m : FinMap id_cmp Block) (es : List (BlockId × ℕ)) → All (λ (e : BlockId × ℕ). e.1 ≡ length_at m e.0) es → values_of es ≡ lengths_of m (keys_of es)
lengths_are m [] h = refl
lengths_are m (e ∷ es) h = ap (λ n. n ∷ values_of es) (h zero e (omega arith)) ∙ ap (λ l. length_at m e.0 ∷ l) (lengths_are m es (λ k d l. h (suc k) d (omega (arith, l))))

sum_is : (m : FinMap id_cmp Block) (ids : List BlockId) → sum_of m ids ≡ sum_by (quanta_at m) ids
sum_is m [] = refl
sum_is m (id ∷ ids) = ap (λ n. quanta_at m id + n) (sum_is m ids) ∙ sym (sum_by-cons (quanta_at m) id ids)

-- the plan of what was found, once it is sorted
module _ (p : Part) (first : List BlockId) (room : ℕ) (found sorted : List (BlockId × ℕ)) (n : ℕ) (f : Found p first room found n) (perm : IsPermutation found sorted) (order : IsSorted pair_cmp sorted) where
  keys_perm : IsPermutation (keys_of found) (keys_of sorted)
  keys_perm = IsPermutation-map (λ (e : BlockId × ℕ). e.0) found sorted perm

  same : (q : BlockId) → among (keys_of sorted) q ≡ among (keys_of found) q
  same q = sym (list_any-IsPermutation (same_id q) (keys_of found) (keys_of sorted) keys_perm)

  sorted_lengths : values_of sorted ≡ lengths_of p.blocks (keys_of sorted)
  sorted_lengths = lengths_are p.blocks sorted (All-permutation (λ (e : BlockId × ℕ). e.1 ≡ length_at p.blocks e.0) found sorted perm f.lengths)

  pub sorted_plans : (h : Shared) (plan : Plan) → plan.ids ≡ keys_of sorted → plan.quanta ≡ n → used_by h.blocks + room ≡ h.options.heap_quanta → Plans p first h plan
  sorted_plans h plan ids quanta rest = record {
    ascending = subst (IsStrictlySortedBy id_cmp) (sym ids) (strict (keys_of sorted) (keys_sorted sorted order) (IsDistinct-IsPermutation same_id same_turned (keys_of found) (keys_of sorted) keys_perm (distinct_is (keys_of found) f.distinct)));
    quanta =
        quanta ∙ f.quanta ∙ sum_is p.blocks (keys_of found) ∙ sym (sum_by-IsPermutation (quanta_at p.blocks) (keys_of found) (keys_of sorted) keys_perm) ∙ sym (sum_is p.blocks (keys_of sorted))
        ∙ ap (sum_of p.blocks) (sym ids);
    led = λ c h. f.led c (sym (same c) ∙ ap (λ l. among l c) (sym ids) ∙ h);
    whole = λ fits c led. ap (λ l. among l c) ids ∙ same c ∙ f.whole (omega (arith, fits, rest, quanta)) c led;
  }

  -- and the room that was taken for it
  pub sorted_room : (h k : Shared) (plan : Plan) (taken : List ℕ) → plan.ids ≡ keys_of sorted → taken ≡ values_of sorted → k ≡ record h { room = taken } → k ≡ record h { room = lengths_of p.blocks plan.ids }
  sorted_room h k plan taken ids is same = same ∙ ap (λ r. record h { room = r }) (is ∙ sorted_lengths ∙ ap (lengths_of p.blocks) (sym ids))
