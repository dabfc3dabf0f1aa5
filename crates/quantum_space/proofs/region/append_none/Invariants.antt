use Rattle.std.proofs.Common.{◌≡◌, ◌+◌, ℕ, None, length, get_or, vec_capacity}
use Rattle.quantum_space.proofs.region.append_none.Given as goal

abbrev pub invariant-loop-done : goal.invariant-loop-done
invariant-loop-done l = record {
  count : length l.layouts.items ≡ length l.fn.layouts.items + l.done;
  same : (k : ℕ) → get_or l.layouts.items k None ≡ get_or l.fn.layouts.items k None;
  capacity : vec_capacity l.layouts ≡ vec_capacity l.fn.layouts;
}
