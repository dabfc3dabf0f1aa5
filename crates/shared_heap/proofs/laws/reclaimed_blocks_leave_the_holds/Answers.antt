use Rattle.shared_heap.proofs.Leaving.{reclaimed_holds}
use Rattle.shared_heap.proofs.laws.reclaimed_blocks_leave_the_holds.Goals as goal

pub returns : goal.returns
returns c = reclaimed_holds
