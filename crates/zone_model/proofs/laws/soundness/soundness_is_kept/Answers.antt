use Rattle.zone_model.proofs.Soundness.{opening_sound, step_sound, escape_sound}
use Rattle.zone_model.proofs.laws.soundness.soundness_is_kept.Goals as goal

pub returns-clause-opening : goal.returns-clause-opening
returns-clause-opening c = opening_sound

pub returns-clause-step : goal.returns-clause-step
returns-clause-step c = step_sound

pub returns-clause-escape : goal.returns-clause-escape
returns-clause-escape c = escape_sound
