use Rattle.zone_model.proofs.WorkedBusy as busy
use Rattle.zone_model.proofs.laws.collections.a_second_cycle_is_busy.Goals as goal

pub returns-clause-legal : goal.returns-clause-legal
returns-clause-legal c = busy.busy_is_legal

pub returns-clause-twice : goal.returns-clause-twice
returns-clause-twice c = busy.two_are_illegal
