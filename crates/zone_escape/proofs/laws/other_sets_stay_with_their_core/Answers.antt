use Rattle.zone_escape.proofs.Belonging.{other_belongs, untouched_belongs}
use Rattle.zone_escape.proofs.laws.other_sets_stay_with_their_core.Goals as goal

pub returns-clause-others : goal.returns-clause-others
returns-clause-others c = other_belongs

pub returns-clause-untouched : goal.returns-clause-untouched
returns-clause-untouched c = untouched_belongs
