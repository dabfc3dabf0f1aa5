use Rattle.zone_model.proofs.WorkedYoung as worked
use Rattle.zone_model.proofs.laws.collections.an_old_block_keeps_what_it_refers_to_young.Goals as goal

pub returns-clause-legal : goal.returns-clause-legal
returns-clause-legal c = worked.leaving_is_legal

pub returns-clause-condemned : goal.returns-clause-condemned
returns-clause-condemned c = worked.condemning_is_illegal
