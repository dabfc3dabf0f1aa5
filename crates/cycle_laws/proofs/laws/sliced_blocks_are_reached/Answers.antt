use Rattle.cycle_laws.proofs.Reaching.{slice_reaches}
use Rattle.cycle_laws.proofs.laws.sliced_blocks_are_reached.Goals as goal

pub returns : goal.returns
returns c = slice_reaches
