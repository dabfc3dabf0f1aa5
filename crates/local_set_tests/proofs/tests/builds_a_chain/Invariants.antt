use Rattle.std.proofs.Common.{◌≡◌, false}
use Rattle.local_set_tests.proofs.tests.builds_a_chain.Given as goal

abbrev pub invariant-loop-serial : goal.invariant-loop-serial
invariant-loop-serial l = l.local.ended ≡ false

abbrev pub invariant-loop : goal.invariant-loop
invariant-loop l = l.local.ended ≡ false
