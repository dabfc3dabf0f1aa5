use Rattle.play_order.proofs.Playing.{alone_part}
use Rattle.play_order.proofs.laws.parts_come_from_published_and_waiting_entries.Goals as goal

pub returns : goal.returns
returns c = alone_part
