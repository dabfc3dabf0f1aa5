use Rattle.std.proofs.Common.{◌≡◌, length}
use Rattle.finalise_pass.proofs.tests.ids.Given as goal

abbrev pub invariant-loop-serial : goal.invariant-loop-serial
invariant-loop-serial l = length l.ids.items ≡ l.serial-index
