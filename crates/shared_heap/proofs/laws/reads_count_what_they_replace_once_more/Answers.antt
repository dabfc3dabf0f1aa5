use Rattle.shared_heap.proofs.Agreeing.{once_more}
use Rattle.shared_heap.proofs.laws.reads_count_what_they_replace_once_more.Goals as goal

pub returns : goal.returns
returns c = once_more
