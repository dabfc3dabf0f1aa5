use Rattle.std.proofs.Common.{refl}
use Rattle.shared_heap.proofs.Kept.{heap_alike, times_blocks, times_collect}
use Rattle.std.proofs.Common.{◌∙◌, ap, ◌+◌, ℕ}
use Rattle.std.specs.Option.{option_map_or}
use Rattle.std.specs.FinMap.{get}
use Rattle.block_table.specs.Holds.{Holds, times}
use Rattle.block_table.specs.Table.{Table}
use Rattle.shared_heap.specs.contracts.heap.Heap.{the_view}
use Rattle.shared_heap.proofs.Holding.{held_by_one}
use Rattle.shared_heap.proofs.Results.{on_ok}
use Rattle.shared_heap.proofs.heap.Heap.hold_more.Goals as goal

pub returns-clause-held : goal.returns-clause-held
returns-clause-held c = on_ok c.set_times.result (λ is.
    rw (← c.self.view_is, c.in-Some.is) (λ u q there.
    ap (λ (b : Table). option_map_or (λ (k : Holds). times k u) (get b.holds q) 0) is
    ∙ held_by_one (the_view c.self.inside) c.args.t c.in-Some.id c.in-Some-checked_add.times (c.in-Some-checked_add.ensures.1 ∙ ap (λ (n : ℕ). n + 1) c.times.ensures) c.set_times.ensures.keys u q there)) c.set_times.ensures.ok

pub invariant_of-self : goal.invariant_of-self
invariant_of-self c =
    let t = c.self.inside.tables in
    let o = c.self.inside.open_cycle in
    heap_alike c.self.inside (record t { blocks = c.set_times.new.self }) o c.self.invariant (times_blocks t o c.set_times.new.self c.set_times.result _ c.set_times.ensures.ok c.set_times.ensures.err) refl
    (times_collect t o c.set_times.new.self c.set_times.result _ c.set_times.ensures.ok c.set_times.ensures.err c.self.invariant.collects)
