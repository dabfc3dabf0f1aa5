use Rattle.cycle_laws.proofs.Reaching.{begin_reaches}
use Rattle.cycle_laws.proofs.laws.begun_blocks_are_reached.Goals as goal

pub returns : goal.returns
returns c = begin_reaches
