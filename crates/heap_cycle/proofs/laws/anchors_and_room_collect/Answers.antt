use Rattle.heap_cycle.proofs.Alike.{anchored_collects}
use Rattle.heap_cycle.proofs.laws.anchors_and_room_collect.Goals as goal

pub returns : goal.returns
returns c = λ t u o blocks pairs list room k. anchored_collects t u o blocks pairs list room k
