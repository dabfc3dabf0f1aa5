-- The heap's sums are those of each state for which it stands, and how a block more changes them
use Rattle.std.proofs.Common.{◌≡◌, ℕ, ◌+◌, ◌≤◌, false, cond, List, [], ◌∷◌, Option, Some, None, refl, sym, ap, ◌∙◌, arith, is_some, nat_lt}
use Rattle.std.proofs.lemmas.Bool.Decides.{nat_tests}
use Rattle.std.specs.Option.{option_map_or}
use Rattle.std.specs.FinMap.{FinMap, empty, get, insert}
use Rattle.az_base.specs.declared.action.Action.{Action}
use Rattle.az_base.specs.declared.block_id.BlockId.{BlockId}
use Rattle.az_base.specs.declared.word.Word.{Word}
use Rattle.block_layouts.specs.declared.layout.Layout.{Layout}
use Rattle.az_base.specs.declared.options.Options.{Options}
use Rattle.az_base.specs.Ids.{id_cmp, ids_total, exact_ids}
use Rattle.block_layouts.specs.Layouts.{quanta, len_of}
use Rattle.zone_model.specs.Maps.{total}
use Rattle.zone_model.proofs.MapLaws.{total-insert, at_value}
use Rattle.zone_model.specs.State.{State, Block, is_nil, with_edit}
use Rattle.zone_model.specs.Quanta.{used_quanta, quanta_needed}
use Rattle.zone_model.specs.Stats.{stats_of}
use Rattle.zone_model.specs.Misuses.{is_overfull}
use Rattle.zone_model.proofs.Totals.{total_added}
use Rattle.block_table.specs.Stored.{HeapBlock, newly}
use Rattle.block_table.specs.Table.{used_by}
use Rattle.shared_heap.specs.Shared.{Shared, number_of}
use Rattle.heap_cycle.specs.Waiting.{unfinalised_by, waits}
use Rattle.heap_tables.specs.Standing.{kept_of}
use Rattle.shared_heap.specs.Stands.{Stands}
use Rattle.shared_heap.proofs.Picks.{total-picked, total-zero}

same_sum : {K : Type 0} {X : Type 0} {R : K → K → Rattle.std.specs.declared.cmp.Ordering.Ordering} (f g : K → X → ℕ) (m : FinMap R X) → ((k : K) (x : X) → f k x ≡ g k x) → total f m ≡ total g m
same_sum f g m is = ap (λ (h : _ → _ → ℕ). total h m) (λ i k x. is k x i)

pub used_stands : (h : Shared) (z : State) → Stands h z → used_quanta z ≡ used_by h.blocks
used_stands h z s =
    sym (total-picked id_cmp (λ id (k : HeapBlock). quanta (len_of k.layout)) ids_total exact_ids (λ id b. kept_of z.reclaims b) z.blocks h.blocks s.blocks
    ∙ same_sum _ _ z.blocks (λ id b. quanta_at b b.since refl))
  where
    quanta_at : (b : Block) (o : Option ℕ) → b.since ≡ o → at_value (λ (k : HeapBlock). quanta (len_of k.layout)) (kept_of z.reclaims b) ≡ cond (is_some b.since) (quanta (len_of b.layout)) 0
    quanta_at b None e = rw e refl
    quanta_at b (Some since) e = rw e refl

pub number_stands : (h : Shared) (z : State) → Stands h z → (stats_of z).blocks ≡ number_of h.blocks
number_stands h z s =
    sym (total-picked id_cmp (λ id (k : HeapBlock). 1) ids_total exact_ids (λ id b. kept_of z.reclaims b) z.blocks h.blocks s.blocks
    ∙ same_sum _ _ z.blocks (λ id b. one_at b b.since refl))
  where
    one_at : (b : Block) (o : Option ℕ) → b.since ≡ o → at_value (λ (k : HeapBlock). 1) (kept_of z.reclaims b) ≡ cond (is_some b.since) 1 0
    one_at b None e = rw e refl
    one_at b (Some since) e = rw e refl

-- a block more
pub used_more : (m : FinMap id_cmp HeapBlock) (id : BlockId) (k : HeapBlock) → get m id ≡ None → used_by (insert m id k) ≡ used_by m + quanta (len_of k.layout)
used_more m id k none = total_added ids_total exact_ids (λ id (k : HeapBlock). quanta (len_of k.layout)) m id k none

pub number_more : (m : FinMap id_cmp HeapBlock) (id : BlockId) (k : HeapBlock) → get m id ≡ None → number_of (insert m id k) ≡ number_of m + 1
number_more m id k none = total_added ids_total exact_ids (λ id (k : HeapBlock). 1) m id k none

pub unfinalised_more : (m : FinMap id_cmp HeapBlock) (id : BlockId) (k : HeapBlock) → get m id ≡ None → unfinalised_by (insert m id k) ≡ unfinalised_by m + cond (waits k) 1 0
unfinalised_more m id k none = total_added ids_total exact_ids (λ id (k : HeapBlock). cond (waits k) 1 0) m id k none

-- a block that has just escaped waits for its finaliser where it has actions
pub waits_once : (layout : Layout) (words : List Word) (actions : List Action) → cond {A = ℕ} (waits (newly layout words actions)) 1 0 ≡ cond {A = ℕ} (is_nil actions) 0 1
waits_once layout words [] = refl
waits_once layout words (a ∷ actions) = refl

-- a block takes at least one quantum
pub one_quantum : (n : ℕ) → 1 ≤ quanta n
one_quantum n = grind (arith, nat_tests)

-- where nothing escapes, no quanta are needed
pub none_needed : (z : State) → quanta_needed z (λ _. false) ≡ 0
none_needed z = total-zero z.blocks

-- the heap is full for these quanta where the state is
pub full_stands : (h : Shared) (z : State) (n : ℕ) → Stands h z → is_overfull z n ≡ nat_lt h.options.heap_quanta (used_by h.blocks + n)
full_stands h z n s = ap (λ (o : Options). nat_lt o.heap_quanta (used_quanta z + n)) s.options ∙ ap (λ u. nat_lt h.options.heap_quanta (u + n)) (used_stands h z s)

-- and what is there fits
pub not_full : (h : Shared) (z : State) → Stands h z → used_by h.blocks ≤ h.options.heap_quanta → is_overfull z (quanta_needed z (λ _. false)) ≡ false
not_full h z s fits = ap (is_overfull z) (none_needed z) ∙ full_stands h z 0 s ∙ below (used_by h.blocks) h.options.heap_quanta fits
  where
    below : (a b : ℕ) → a ≤ b → nat_lt b (a + 0) ≡ false
    below a b l = grind (arith, nat_tests)

-- an edit that keeps what is summed keeps the sum
pub sum_edited : (f : BlockId → HeapBlock → ℕ) (m : FinMap id_cmp HeapBlock) (id : BlockId) (g : HeapBlock → HeapBlock) → ((k : HeapBlock) → f id (g k) ≡ f id k) → total f (with_edit m id g) ≡ total f m
sum_edited f m id g same = go (get m id) refl
  where
    go : (o : Option HeapBlock) → get m id ≡ o → total f (option_map_or (λ k. insert m id (g k)) o m) ≡ total f m
    go None e = refl
    go (Some k) e =
        let sum : total f (insert m id (g k)) + at_value (f id) (get m id) ≡ total f m + f id (g k) = total-insert ids_total exact_ids f m id (g k) in
        let was : at_value (f id) (get m id) ≡ f id k = ap (at_value (f id)) e in
        let is : f id (g k) ≡ f id k = same k in
        omega arith
