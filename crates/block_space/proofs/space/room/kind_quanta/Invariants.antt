use Rattle.std.proofs.Common.{◌≡◌, ◌≤◌, ◌+◌, drop}
use Rattle.block_space.specs.Spaces.{kind_quanta, list_quanta}
use Rattle.block_space.proofs.space.room.kind_quanta.Given as goal

abbrev pub invariant-loop-words : goal.invariant-loop-words
invariant-loop-words l = record {
  sum : l.sum + kind_quanta l.kind (drop l.words-index l.lengths) ≡ kind_quanta l.kind l.lengths;
  few : l.sum + list_quanta (drop l.words-index l.lengths) ≤ list_quanta l.lengths;
}
