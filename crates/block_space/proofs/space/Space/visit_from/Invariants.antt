use Rattle.std.proofs.Common.{◌≡◌, ℕ, ◌+◌, ◌≤◌, ◌⊎◌}
use Rattle.block_space.specs.Marking.{HasSameBlocks, VisitsWords}
use Rattle.block_space.proofs.space.Space.visit_from.Given as goal

abbrev pub invariant-loop-i : goal.invariant-loop-i
invariant-loop-i l = record {
  count : ℕ;
  reached : l.i ≡ l.from + count;
  within : (count ≡ 0) ⊎ (l.i ≤ l.len);
  visits : VisitsWords l.mode l.fn.spot l.from count l.fn.self l.fn.stack l.self l.stack;
  same : HasSameBlocks l.fn.self l.self;
}
