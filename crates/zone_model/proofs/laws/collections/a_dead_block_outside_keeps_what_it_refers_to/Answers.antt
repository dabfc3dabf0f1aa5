use Rattle.zone_model.proofs.WorkedDead as worked
use Rattle.zone_model.proofs.laws.collections.a_dead_block_outside_keeps_what_it_refers_to.Goals as goal

pub returns-clause-legal : goal.returns-clause-legal
returns-clause-legal c = worked.keeping_is_legal

pub returns-clause-reclaimed : goal.returns-clause-reclaimed
returns-clause-reclaimed c = worked.reclaiming_is_illegal
