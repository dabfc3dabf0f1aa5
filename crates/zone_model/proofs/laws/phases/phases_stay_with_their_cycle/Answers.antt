use Rattle.zone_model.proofs.Cycling.{free_stays, marking_stays, settling_stays}
use Rattle.zone_model.proofs.laws.phases.phases_stay_with_their_cycle.Goals as goal

pub returns-clause-free : goal.returns-clause-free
returns-clause-free c = free_stays

pub returns-clause-marking : goal.returns-clause-marking
returns-clause-marking c = marking_stays

pub returns-clause-settling : goal.returns-clause-settling
returns-clause-settling c = settling_stays
