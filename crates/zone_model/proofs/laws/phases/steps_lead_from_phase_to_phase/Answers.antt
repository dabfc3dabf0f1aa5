use Rattle.zone_model.proofs.Cycling.{begin_step, condemn_step, finalise_step, reclaim_step, settling_may}
use Rattle.zone_model.proofs.laws.phases.steps_lead_from_phase_to_phase.Goals as goal

pub returns-clause-begin : goal.returns-clause-begin
returns-clause-begin c = begin_step

pub returns-clause-condemn : goal.returns-clause-condemn
returns-clause-condemn c = condemn_step

pub returns-clause-finalise : goal.returns-clause-finalise
returns-clause-finalise c = finalise_step

pub returns-clause-reclaim : goal.returns-clause-reclaim
returns-clause-reclaim c = reclaim_step

pub returns-clause-next : goal.returns-clause-next
returns-clause-next c = settling_may
