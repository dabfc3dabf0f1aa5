use Rattle.zone_model.proofs.SoundLaws.{local_shares}
use Rattle.zone_model.proofs.LocalGains.{step_gains}
use Rattle.zone_model.proofs.laws.parts.local_calls_leave_what_is_shared.Goals as goal

pub returns-clause-shared : goal.returns-clause-shared
returns-clause-shared c = local_shares

pub returns-clause-gains : goal.returns-clause-gains
returns-clause-gains c = step_gains
