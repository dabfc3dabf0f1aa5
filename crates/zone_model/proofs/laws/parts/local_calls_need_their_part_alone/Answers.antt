use Rattle.zone_model.proofs.SoundLaws.{to_local, from_local}
use Rattle.zone_model.proofs.Waiting.{waiting_own}
use Rattle.zone_model.proofs.laws.parts.local_calls_need_their_part_alone.Goals as goal

pub returns-clause-to : goal.returns-clause-to
returns-clause-to c = to_local

pub returns-clause-from : goal.returns-clause-from
returns-clause-from c = from_local

pub returns-clause-own : goal.returns-clause-own
returns-clause-own c = waiting_own
