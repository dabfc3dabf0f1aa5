use Rattle.zone_escape.proofs.Belonging.{made_belongs, same_belongs}
use Rattle.zone_escape.proofs.laws.local_calls_leave_sets_with_their_core.Goals as goal

pub returns-clause-made : goal.returns-clause-made
returns-clause-made c = made_belongs

pub returns-clause-same : goal.returns-clause-same
returns-clause-same c = same_belongs
