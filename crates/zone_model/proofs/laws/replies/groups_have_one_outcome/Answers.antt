use Rattle.zone_model.proofs.Groups.{group_once}
use Rattle.zone_model.proofs.laws.replies.groups_have_one_outcome.Goals as goal

pub returns : goal.returns
returns c = group_once
