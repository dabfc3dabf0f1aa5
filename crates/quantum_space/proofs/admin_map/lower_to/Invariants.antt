use Rattle.std.proofs.Common.{◌≡◌, ◌<◌, ◌≤◌, ℕ, length, get_or}
use Rattle.quantum_space.proofs.admin_map.lower_to.Given as goal

abbrev pub invariant-loop-len : goal.invariant-loop-len
invariant-loop-len l = record {
  count : length l.first ≡ 33;
  lower : (k : ℕ) → get_or l.first k 0 ≤ get_or l.fn.first k 0;
  back : (n : ℕ) → n < l.len → get_or l.first n 0 ≤ l.subzone;
}
