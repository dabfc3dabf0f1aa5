use Rattle.play_order.proofs.InPlace.{plays_in_place}
use Rattle.play_order.proofs.laws.waiting_lists_keep_the_order.Goals as goal

pub returns : goal.returns
returns c = λ pending lines line d after at single plays. plays_in_place pending lines line d after at single plays
