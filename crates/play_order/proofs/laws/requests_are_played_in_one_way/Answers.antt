use Rattle.play_order.proofs.Whole.{play_once}
use Rattle.play_order.proofs.laws.requests_are_played_in_one_way.Goals as goal

pub returns : goal.returns
returns c = play_once
