use Rattle.shared_heap.proofs.Leaving.{leaves_holds}
use Rattle.shared_heap.proofs.laws.other_calls_leave_the_holds.Goals as goal

pub returns : goal.returns
returns c = leaves_holds
