use Rattle.zone_model.proofs.Moments.{keeps_opening, keeps_with_moment}
use Rattle.zone_model.proofs.Reaching.{escape_reached}
use Rattle.zone_model.proofs.laws.reached.reached_blocks_go_on.Goals as goal

pub returns-clause-opens : goal.returns-clause-opens
returns-clause-opens c = keeps_opening

pub returns-clause-change : goal.returns-clause-change
returns-clause-change c = keeps_with_moment

pub returns-clause-escape : goal.returns-clause-escape
returns-clause-escape c = escape_reached
