use Rattle.zone_model.proofs.SoundLaws.{waiting_run}
use Rattle.zone_model.proofs.laws.waiting.waiting_entries_are_steps.Goals as goal

pub returns : goal.returns
returns c = waiting_run
