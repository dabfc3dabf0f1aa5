use Rattle.std.proofs.Common.{arith}
use Rattle.block_space.proofs.Opening.{table_kept}
use Rattle.block_space.proofs.table.Table.reserve.Goals as goal

pub invariant_of-self-2 : goal.invariant_of-self-2
invariant_of-self-2 c =
    let i = c.self.inside in (
      table_kept _ c.make_room.new.list.items c.make_room-2.new.list.items c.make_room-3.new.list.items c.args.count c.self.invariant.0 c.make_room.ensures.same c.make_room-2.ensures.same c.make_room-3.ensures.same
          (omega (arith, c.if-len-count.false, c.len.ensures, i.subzones.ok.0)),
      c.in_ok-make_room.ensures.room,
      c.in_ok-make_room-2.ensures.room,
      c.in_ok-make_room-3.ensures.room,
    )
