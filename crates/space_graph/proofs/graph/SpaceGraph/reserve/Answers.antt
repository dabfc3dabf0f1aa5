use Rattle.std.proofs.Common.{arith}
use Rattle.space_graph.proofs.Comings.{roomier_alike, room_more, rows_alike}
use Rattle.space_graph.proofs.graph.SpaceGraph.reserve.Goals as goal

pub invariant_of-self-2 : goal.invariant_of-self-2
invariant_of-self-2 c = (
  rows_alike _ _ c.self.view_is c.self.invariant.0 c.reserve.new.self.list c.reserve-2.new.self c.reserve.ensures.list (roomier_alike _ _ c.reserve-2.ensures.same),
  room_more c.reserve-2.result _ _ _ _ c.args.lengths.now _ _ c.reserve-2.ensures.ok c.reserve-2.ensures.err c.reserve.ensures.list c.reserve.ensures.room
      (omega (arith, c.to_come.ensures, c.saturating_add-more.ensures, c.len.ensures.len, c.saturating_add.ensures, c.if-saturating_add-gt-MOST_BLOCKS.false, c.in_ok-reserve.ensures.ok))
      (omega (arith, c.to_come.ensures, c.saturating_add-more.ensures, c.len.ensures.len, c.saturating_add.ensures, c.if-saturating_add-gt-MOST_BLOCKS.false)) c.self.invariant.1,
)
