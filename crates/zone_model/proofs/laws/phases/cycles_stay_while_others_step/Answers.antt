use Rattle.zone_model.proofs.SoundLaws.{others_leave_cycle, calls_leave_cycle}
use Rattle.zone_model.proofs.laws.phases.cycles_stay_while_others_step.Goals as goal

pub returns-clause-others : goal.returns-clause-others
returns-clause-others c = others_leave_cycle

pub returns-clause-calls : goal.returns-clause-calls
returns-clause-calls c = calls_leave_cycle
