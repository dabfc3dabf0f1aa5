use Rattle.zone_model.proofs.FirstHistory as first
use Rattle.zone_model.proofs.laws.histories.first_history_is_legal.Goals as goal

pub returns : goal.returns
returns c = first.first_history_is_legal
