use Rattle.zone_model.proofs.Soundness.{reached_law}
use Rattle.zone_model.proofs.laws.reached.edges_stay_among_the_reached.Goals as goal

pub returns : goal.returns
returns c = reached_law
