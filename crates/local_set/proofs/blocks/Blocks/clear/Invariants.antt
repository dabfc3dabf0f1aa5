use Rattle.std.proofs.Common.{length}
use Rattle.local_set.proofs.blocks.Blocks.clear.Given as goal

abbrev pub decreases-loop-id : goal.decreases-loop-id
decreases-loop-id l = length l.self.list
