use Rattle.play_order.proofs.Whole.{play_history}
use Rattle.play_order.proofs.laws.plays_are_histories.Goals as goal

pub returns : goal.returns
returns c = play_history
