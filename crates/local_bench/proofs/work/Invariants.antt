use Rattle.std.proofs.Common.{◌≡◌, false}
use Rattle.local_bench.proofs.work.Given as goal

abbrev pub invariant-loop : goal.invariant-loop
invariant-loop l = l.local.ended ≡ false

abbrev pub invariant-loop-2 : goal.invariant-loop-2
invariant-loop-2 l = l.local.ended ≡ false

abbrev pub invariant-loop-3 : goal.invariant-loop-3
invariant-loop-3 l = l.local.ended ≡ false
