use Rattle.std.proofs.Common.{◌≤◌, ◌-◌, length}
use Rattle.local_set.specs.LocalSets.{blocks_of}
use Rattle.local_set.proofs.Walks.{Walked, Done}
use Rattle.local_set.proofs.walk.reached.Given as goal

abbrev pub invariant-loop-at : goal.invariant-loop-at
invariant-loop-at l = record {
  walked : Walked (blocks_of l.blocks.list) l.registers l.walk.found.keys;
  done : Done (blocks_of l.blocks.list) l.walk.found.keys l.at;
  before : l.at ≤ length l.walk.found.keys;
}

abbrev pub decreases-loop-at : goal.decreases-loop-at
decreases-loop-at l = length l.blocks.list - l.at
