use Rattle.std.proofs.Common.{◌≡◌, ◌≤◌, ◌<◌, All, AllPairs, vec_len}
use Rattle.gate_workers.specs.Workers.{first_numbers}
use Rattle.gate_workers.proofs.crew.first_threads.Given as goal

abbrev pub invariant-loop-n : goal.invariant-loop-n
invariant-loop-n l = record {
  threads : l.threads.items ≡ first_numbers l.n;
  count : vec_len l.threads ≡ l.n;
  within : All (λ t. t ≤ l.n) l.threads.items;
  ascending : AllPairs (λ t u. t < u) l.threads.items;
}
