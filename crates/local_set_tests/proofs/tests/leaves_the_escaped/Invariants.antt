use Rattle.std.proofs.Common.{◌≡◌, false}
use Rattle.local_set_tests.proofs.tests.leaves_the_escaped.Given as goal

abbrev pub invariant-loop-serial : goal.invariant-loop-serial
invariant-loop-serial l = l.local.ended ≡ false
