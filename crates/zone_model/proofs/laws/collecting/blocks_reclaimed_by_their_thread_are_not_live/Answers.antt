use Rattle.zone_model.proofs.Reclaimed.{collected_not_live, left_not_live}
use Rattle.zone_model.proofs.laws.collecting.blocks_reclaimed_by_their_thread_are_not_live.Goals as goal

pub returns-clause-local : goal.returns-clause-local
returns-clause-local c = collected_not_live

pub returns-clause-leave : goal.returns-clause-leave
returns-clause-leave c = left_not_live
