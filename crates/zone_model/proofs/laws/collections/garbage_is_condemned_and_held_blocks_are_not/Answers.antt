use Rattle.zone_model.proofs.WorkedGarbage as worked
use Rattle.zone_model.proofs.laws.collections.garbage_is_condemned_and_held_blocks_are_not.Goals as goal

pub returns-clause-legal : goal.returns-clause-legal
returns-clause-legal c = worked.garbage_is_legal

pub returns-clause-nothing : goal.returns-clause-nothing
returns-clause-nothing c = worked.nothing_is_illegal

pub returns-clause-held : goal.returns-clause-held
returns-clause-held c = worked.held_is_illegal
