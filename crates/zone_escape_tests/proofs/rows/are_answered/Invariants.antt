use Rattle.zone_escape_tests.specs.Turns.{AreOf}
use Rattle.zone_escape_tests.proofs.rows.are_answered.Given as goal

abbrev pub invariant-loop-row : goal.invariant-loop-row
invariant-loop-row l = AreOf l.core l.first l.second l.third
