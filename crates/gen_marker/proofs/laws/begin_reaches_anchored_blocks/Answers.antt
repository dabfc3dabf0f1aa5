use Rattle.zone_model.specs.Collection.{WasAnchored}
use Rattle.gen_marker.proofs.Closure.{begun_dark}
use Rattle.gen_marker.proofs.laws.begin_reaches_anchored_blocks.Goals as goal

pub returns : goal.returns
returns c = λ m s old new cycle. begun_dark m s old new (WasAnchored cycle)
