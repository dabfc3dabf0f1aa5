use Rattle.zone_model.specs.State.{moment}
use Rattle.zone_model.proofs.Moments.{sees}
use Rattle.cycle_laws.proofs.Reaching.{enlivened_reaches}
use Rattle.cycle_laws.proofs.laws.enlivened_blocks_are_reached.Goals as goal

pub returns : goal.returns
returns c = λ after cycle s t live old new fresh same greys anchored dark. rw (sees (moment after) cycle fresh) (enlivened_reaches after cycle s t live old new same greys anchored dark)
