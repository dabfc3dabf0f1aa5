use Rattle.zone_model.proofs.WorkedFinaliser as worked
use Rattle.zone_model.proofs.laws.collections.a_finaliser_may_keep_its_block.Goals as goal

pub returns-clause-legal : goal.returns-clause-legal
returns-clause-legal c = worked.keeping_is_legal

pub returns-clause-twice : goal.returns-clause-twice
returns-clause-twice c = worked.twice_is_illegal

pub returns-clause-reclaimed : goal.returns-clause-reclaimed
returns-clause-reclaimed c = worked.reclaiming_is_illegal
