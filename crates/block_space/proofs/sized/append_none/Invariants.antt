use Rattle.std.proofs.Common.{◌≡◌, ◌+◌, ℕ, length, get_or, vec_capacity}
use Rattle.block_space.proofs.sized.append_none.Given as goal

abbrev pub invariant-loop-done : goal.invariant-loop-done
invariant-loop-done l = record {
  count : length l.sizes.items ≡ length l.fn.sizes.items + l.done;
  same : (k : ℕ) → get_or l.sizes.items k 0 ≡ get_or l.fn.sizes.items k 0;
  capacity : vec_capacity l.sizes ≡ vec_capacity l.fn.sizes;
}
