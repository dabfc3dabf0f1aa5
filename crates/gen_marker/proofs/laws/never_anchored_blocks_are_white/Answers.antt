use Rattle.zone_model.specs.Collection.{WasAnchored}
use Rattle.gen_marker.proofs.Closure.{never_dark}
use Rattle.gen_marker.proofs.laws.never_anchored_blocks_are_white.Goals as goal

pub returns : goal.returns
returns c = λ s f cycle. never_dark s f (WasAnchored cycle)
