use Rattle.zone_gate.specs.Shown.{IsSeatOf}
use Rattle.auto_zone_tests.proofs.turns.try_collections.Given as goal

abbrev pub invariant-loop : goal.invariant-loop
invariant-loop g l = IsSeatOf l.zone l.session.seat
