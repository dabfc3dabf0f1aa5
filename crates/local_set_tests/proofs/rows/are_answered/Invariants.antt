use Rattle.std.proofs.Common.{◌≡◌, false}
use Rattle.local_set_tests.proofs.rows.are_answered.Given as goal

abbrev pub invariant-loop-row : goal.invariant-loop-row
invariant-loop-row l = l.local.ended ≡ false
