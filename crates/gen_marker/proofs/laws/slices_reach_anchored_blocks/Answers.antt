use Rattle.zone_model.specs.Collection.{WasAnchored}
use Rattle.gen_marker.proofs.Closure.{spread_dark}
use Rattle.gen_marker.proofs.laws.slices_reach_anchored_blocks.Goals as goal

pub returns : goal.returns
returns c = λ m s old new cycle. spread_dark m s old new (WasAnchored cycle)
