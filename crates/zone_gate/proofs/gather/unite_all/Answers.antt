use Rattle.std.proofs.Common.{rules, sym}
use Rattle.zone_gate.proofs.Gathers.{gathers_as, seat_view}
use Rattle.zone_gate.proofs.gather.unite_all.Goals as goal

pub loop-seat-preserved : goal.loop-seat-preserved
loop-seat-preserved g c = (
  search rules,
  search rules,
  gathers_as _ _ _ _ _ _ c.in-Some.seat _ c.loop-seat.invariant.2 c.in-Some.ensures.items
      (seat_view c.seat.inside.badge.views _ _ c.seat.inside.thread _ c.in-Some.seat c.seat.invariant c.into_seat.ensures.2 (sym c.seat.view_is)) c.unite.ensures.both c.unite.ensures.begins,
)
