use Rattle.zone_model.specs.State.{opening}
use Rattle.zone_model.proofs.Determined.{run_determined}
use Rattle.zone_model.proofs.laws.histories.histories_end_once.Goals as goal

pub returns : goal.returns
returns c = λ o history a b. run_determined (opening o) history a b
