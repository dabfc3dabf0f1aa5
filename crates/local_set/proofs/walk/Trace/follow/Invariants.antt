use Rattle.local_set.specs.LocalSets.{blocks_of}
use Rattle.local_set.specs.Walks.{referents_of}
use Rattle.local_set.proofs.Walks.{Visited}
use Rattle.local_set.proofs.walk.Trace.follow.Given as goal

abbrev pub invariant-loop-word : goal.invariant-loop-word
invariant-loop-word l = Visited (blocks_of l.blocks.list) l.fn.self.found.keys l.self.found.keys (referents_of l.words) l.word-index
