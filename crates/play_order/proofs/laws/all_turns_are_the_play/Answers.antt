use Rattle.play_order.proofs.Playing.{so_far_all}
use Rattle.play_order.proofs.laws.all_turns_are_the_play.Goals as goal

pub returns : goal.returns
returns c = so_far_all
