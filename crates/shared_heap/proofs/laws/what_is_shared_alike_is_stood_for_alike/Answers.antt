use Rattle.shared_heap.proofs.Alike.{stands_same}
use Rattle.shared_heap.proofs.laws.what_is_shared_alike_is_stood_for_alike.Goals as goal

pub returns : goal.returns
returns c = stands_same
