use Rattle.zone_model.proofs.SoundLaws.{condemned_not_anchored}
use Rattle.zone_model.proofs.laws.collecting.condemned_blocks_are_not_anchored.Goals as goal

pub returns : goal.returns
returns c = condemned_not_anchored
