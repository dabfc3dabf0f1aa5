use Rattle.soak_script.proofs.Playable.{can_be_played}
use Rattle.soak_script.proofs.laws.soak_scripts_can_be_played.Goals as goal

pub returns : goal.returns
returns c = can_be_played
