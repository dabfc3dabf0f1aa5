use Rattle.zone_gate.specs.Shown.{IsSeatOf}
use Rattle.auto_zone_tests.proofs.sessions.are_rows.Given as goal

abbrev pub invariant-loop-row : goal.invariant-loop-row
invariant-loop-row g l = IsSeatOf l.zone l.one.seat × IsSeatOf l.zone l.two.seat
