use Rattle.std.proofs.Common.{ap, refl, [], arith}
use Rattle.block_table.specs.Table.{Table}
use Rattle.shared_heap.proofs.Kept.{heap_alike, room_collect}
use Rattle.shared_heap.proofs.heap.Heap.unreserve.Goals as goal

pub invariant_of-self : goal.invariant_of-self
invariant_of-self c =
    let t = c.self.inside.tables in
    let o = c.self.inside.open_cycle in
    let room = c.self.invariant.collects.cards.room in
    heap_alike c.self.inside (record t { blocks = c.unreserve.new.self }) o c.self.invariant (ap (λ (b : Table). b.blocks) c.unreserve.ensures) refl
    (room_collect t o c.unreserve.new.self [] c.unreserve.ensures (omega (arith, room)) c.self.invariant.collects)
