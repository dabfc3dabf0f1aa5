use Rattle.std.proofs.Common.{◌≡◌, ◌+◌, ℕ, List, arith, ap, ◌∙◌}
use Rattle.az_base.specs.declared.block_id.BlockId.{BlockId}
use Rattle.az_base.specs.declared.options.Options.{Options}
use Rattle.std.specs.Map.{keys_of, values_of}
use Rattle.local_set.specs.LocalSets.{part_in}
use Rattle.escape_plan.proofs.Sorting.{sorted_plans, sorted_room}
use Rattle.escape_plan.proofs.preparing.prepare.Goals as goal

pub returns-clause-plan : goal.returns-clause-plan
returns-clause-plan c =
    let h = c.args.heap.now in
    let most : c.options.result.heap_quanta ≡ h.options.heap_quanta = ap (λ (o : Options). o.heap_quanta) c.options.ensures.value in
    let sorted : List (BlockId × ℕ) = c.sort_unstable.new.self.items in
    sorted_plans (part_in c.args.local.now) c.args.ids.now _ c.in_ok-search.search.followed.items sorted c.in_ok-search.search.quanta c.in_ok-search.ensures c.sort_unstable.ensures.permutation c.sort_unstable.ensures.sorted h c.new.result
    (c.new.ensures.ids ∙ c.in_ok-planned.ensures.ids ∙ ap (λ (l : List (BlockId × ℕ)). keys_of l) c.deref.ensures.value) c.new.ensures.quanta (omega (arith, most, c.used.ensures.value, c.used.ensures.fits, c.from.ensures))

pub returns-clause-room : goal.returns-clause-room
returns-clause-room c =
    let sorted : List (BlockId × ℕ) = c.sort_unstable.new.self.items in
    sorted_room (part_in c.args.local.now) c.args.ids.now _ c.in_ok-search.search.followed.items sorted c.in_ok-search.search.quanta c.in_ok-search.ensures c.sort_unstable.ensures.permutation c.sort_unstable.ensures.sorted c.args.heap.now c.reserve_admit.new.self c.new.result _
    (c.new.ensures.ids ∙ c.in_ok-planned.ensures.ids ∙ ap (λ (l : List (BlockId × ℕ)). keys_of l) c.deref.ensures.value) (c.deref-2.ensures.value ∙ c.in_ok-planned.ensures.lengths ∙ ap (λ (l : List (BlockId × ℕ)). values_of l) c.deref.ensures.value) c.in_ok-reserve_admit.ensures.ok
