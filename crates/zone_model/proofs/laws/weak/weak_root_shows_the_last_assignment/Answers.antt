use Rattle.zone_model.proofs.WeakHistory.{cleared, cleared_ends, shows_block, shows_null, shows_block_no_longer}
use Rattle.zone_model.proofs.laws.weak.weak_root_shows_the_last_assignment.Goals as goal

pub returns-clause-legal : goal.returns-clause-legal
returns-clause-legal c = (cleared, cleared_ends)

pub returns-clause-block : goal.returns-clause-block
returns-clause-block c = shows_block

pub returns-clause-null : goal.returns-clause-null
returns-clause-null c = shows_null

pub returns-clause-gone : goal.returns-clause-gone
returns-clause-gone c = shows_block_no_longer
