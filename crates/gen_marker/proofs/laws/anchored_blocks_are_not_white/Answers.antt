use Rattle.gen_marker.proofs.Closure.{anchored_dark}
use Rattle.gen_marker.proofs.laws.anchored_blocks_are_not_white.Goals as goal

pub returns : goal.returns
returns c = anchored_dark
