use Rattle.std.proofs.Common.{◌≡◌}
use Rattle.zone_gate.specs.Gathering.{Gathered}
use Rattle.zone_gate.proofs.gather.unite_all.Given as goal

abbrev pub invariant-loop-seat : goal.invariant-loop-seat
invariant-loop-seat g l = (l.token.table_id ≡ l.initial.token.table_id) × (l.token.id ≡ l.initial.token.id) × Gathered l.initial.token.me l.token.me l.initial.seats.items l.seats.items

abbrev pub decreases-loop-seat : goal.decreases-loop-seat
decreases-loop-seat g l = goal.left-loop-seat g l
