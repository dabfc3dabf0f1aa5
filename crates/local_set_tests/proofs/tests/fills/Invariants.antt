use Rattle.std.proofs.Common.{◌≡◌, false}
use Rattle.local_set_tests.proofs.tests.fills.Given as goal

abbrev pub invariant-loop : goal.invariant-loop
invariant-loop l = l.local.ended ≡ false
