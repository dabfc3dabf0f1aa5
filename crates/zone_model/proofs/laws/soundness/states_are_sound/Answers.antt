use Rattle.zone_model.proofs.Soundness.{ends_sound}
use Rattle.zone_model.proofs.laws.soundness.states_are_sound.Goals as goal

pub returns : goal.returns
returns c = ends_sound
