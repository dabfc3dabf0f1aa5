use Rattle.play_order.proofs.Rooms.{play_alike}
use Rattle.play_order.proofs.laws.plays_do_not_look_at_room.Goals as goal

pub returns : goal.returns
returns c = play_alike
