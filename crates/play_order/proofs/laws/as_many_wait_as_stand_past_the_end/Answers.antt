use Rattle.play_order.proofs.InPlace.{all_counted}
use Rattle.play_order.proofs.laws.as_many_wait_as_stand_past_the_end.Goals as goal

pub returns : goal.returns
returns c = λ pending t lines single. all_counted pending lines single t
