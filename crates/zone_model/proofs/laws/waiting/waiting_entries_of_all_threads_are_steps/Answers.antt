use Rattle.zone_model.proofs.SoundLaws.{all_waiting_run}
use Rattle.zone_model.proofs.Waiting.{all_waiting_legal}
use Rattle.zone_model.proofs.laws.waiting.waiting_entries_of_all_threads_are_steps.Goals as goal

pub returns-clause-steps : goal.returns-clause-steps
returns-clause-steps c = all_waiting_run

pub returns-clause-legal : goal.returns-clause-legal
returns-clause-legal c = all_waiting_legal
