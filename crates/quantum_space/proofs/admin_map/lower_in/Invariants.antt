use Rattle.std.proofs.Common.{◌≡◌, ◌<◌, ◌≤◌, ◌+◌, ℕ, max, length, get_or}
use Rattle.quantum_space.proofs.admin_map.lower_in.Given as goal

abbrev pub invariant-loop-len : goal.invariant-loop-len
invariant-loop-len l = record {
  count : length l.low.items ≡ length l.fn.low.items;
  lower : (k : ℕ) → get_or l.low.items k 0 ≤ get_or l.fn.low.items k 0;
  back : (n : ℕ) → n < l.len → get_or l.low.items (l.base + n) 0 + n ≤ max n (l.quantum + 1);
}
