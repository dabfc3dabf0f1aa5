use Rattle.zone_model.proofs.Determined.{step_determined}
use Rattle.zone_model.proofs.laws.histories.steps_are_determined.Goals as goal

pub returns : goal.returns
returns c = step_determined
