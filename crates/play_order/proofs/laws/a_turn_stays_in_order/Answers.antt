use Rattle.play_order.proofs.Playing.{so_far_more}
use Rattle.play_order.proofs.laws.a_turn_stays_in_order.Goals as goal

pub returns : goal.returns
returns c = so_far_more
