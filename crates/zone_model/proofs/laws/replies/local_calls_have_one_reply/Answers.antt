use Rattle.zone_model.proofs.Alone.{local_once, own_once}
use Rattle.zone_model.proofs.laws.replies.local_calls_have_one_reply.Goals as goal

pub returns-clause-reply : goal.returns-clause-reply
returns-clause-reply c = local_once

pub returns-clause-part : goal.returns-clause-part
returns-clause-part c = own_once
