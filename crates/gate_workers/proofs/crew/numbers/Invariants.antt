use Rattle.std.proofs.Common.{◌≡◌}
use Rattle.gate_workers.specs.Workers.{first_numbers}
use Rattle.gate_workers.proofs.crew.numbers.Given as goal

abbrev pub invariant-loop-n : goal.invariant-loop-n
invariant-loop-n l = l.numbers.items ≡ first_numbers l.n
