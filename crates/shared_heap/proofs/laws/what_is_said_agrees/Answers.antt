use Rattle.shared_heap.proofs.Agreeing.{said}
use Rattle.shared_heap.proofs.laws.what_is_said_agrees.Goals as goal

pub returns : goal.returns
returns c = said
