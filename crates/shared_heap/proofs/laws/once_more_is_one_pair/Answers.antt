use Rattle.shared_heap.proofs.Agreeing.{one_pair, no_pair}
use Rattle.shared_heap.proofs.laws.once_more_is_one_pair.Goals as goal

pub returns-clause-pair : goal.returns-clause-pair
returns-clause-pair c = one_pair

pub returns-clause-none : goal.returns-clause-none
returns-clause-none c = no_pair
