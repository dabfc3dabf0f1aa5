use Rattle.play_order.proofs.Playing.{so_far_none}
use Rattle.play_order.proofs.laws.at_first_nothing_is_asked_for.Goals as goal

pub returns : goal.returns
returns c = so_far_none
