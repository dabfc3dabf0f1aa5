use Rattle.heap_script.proofs.Facts.{can_be_played}
use Rattle.heap_script.proofs.laws.scripts_can_be_played.Goals as goal

pub returns : goal.returns
returns c = can_be_played
