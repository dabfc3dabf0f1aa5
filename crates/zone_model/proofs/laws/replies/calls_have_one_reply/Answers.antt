use Rattle.zone_model.proofs.Replied.{step_once}
use Rattle.zone_model.proofs.laws.replies.calls_have_one_reply.Goals as goal

pub returns : goal.returns
returns c = step_once
