use Rattle.local_set.specs.LocalSets.{blocks_of}
use Rattle.local_set.proofs.Walks.{Visited}
use Rattle.local_set.proofs.walk.Trace.begin.Given as goal

abbrev pub invariant-loop-held : goal.invariant-loop-held
invariant-loop-held l = Visited (blocks_of l.blocks.list) l.fn.self.found.keys l.self.found.keys l.registers l.held-index
