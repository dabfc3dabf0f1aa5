use Rattle.std.proofs.Common.{◌≡◌, All, vec_len}
use Rattle.gate_workers.specs.Workers.{first_numbers}
use Rattle.gate_workers.proofs.crew.lines_for.Given as goal

abbrev pub invariant-loop-n : goal.invariant-loop-n
invariant-loop-n l = record {
  count : vec_len l.lines ≡ l._n;
  each : All (λ v. v.items ≡ first_numbers l.last) l.lines.items;
}
