use Rattle.std.proofs.Common.{◌≡◌, ◌+◌, ◌<◌, ◌≤◌, ℕ, drop, get_or}
use Rattle.block_space.specs.Spaces.{list_quanta}
use Rattle.block_space.proofs.space.room.list_quanta.Given as goal

abbrev pub invariant-loop-words : goal.invariant-loop-words
invariant-loop-words l = record {
  sum : l.sum + list_quanta (drop l.words-index l.lengths) ≡ list_quanta l.lengths;
  short : (k : ℕ) → k < l.words-index → get_or l.lengths k 0 ≤ 4096;
}
