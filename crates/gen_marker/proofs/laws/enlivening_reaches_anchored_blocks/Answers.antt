use Rattle.zone_model.specs.Collection.{WasAnchored}
use Rattle.gen_marker.proofs.Closure.{enlivened_dark}
use Rattle.gen_marker.proofs.laws.enlivening_reaches_anchored_blocks.Goals as goal

pub returns : goal.returns
returns c = λ s id old new cycle. enlivened_dark s id old new (WasAnchored cycle)
