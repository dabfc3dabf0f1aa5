use Rattle.std.proofs.Common.{◌≡◌, ◌+◌, ℕ, length, get_or, vec_capacity}
use Rattle.quantum_space.proofs.admin_map.append.Given as goal

abbrev pub invariant-loop-done : goal.invariant-loop-done
invariant-loop-done g l = record {
  count : length l.list.items ≡ length l.fn.list.items + l.done;
  same : (k : ℕ) → get_or l.list.items k l.item ≡ get_or l.fn.list.items k l.item;
  capacity : vec_capacity l.list ≡ vec_capacity l.fn.list;
}
