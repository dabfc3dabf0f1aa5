use Rattle.zone_model.proofs.Reclaimed.{reclaimed_unanchored}
use Rattle.zone_model.proofs.laws.collecting.reclaimed_blocks_are_not_anchored.Goals as goal

pub returns : goal.returns
returns c = reclaimed_unanchored
