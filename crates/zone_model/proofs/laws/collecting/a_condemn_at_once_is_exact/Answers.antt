use Rattle.zone_model.proofs.AtOnce.{begin_then_condemn}
use Rattle.zone_model.proofs.laws.collecting.a_condemn_at_once_is_exact.Goals as goal

pub returns : goal.returns
returns c = begin_then_condemn
