use Rattle.quantum_space.proofs.Placing.{blocks_apart}
use Rattle.quantum_space.proofs.region.blocks_lie_apart.Goals as goal

pub returns : goal.returns
returns c = blocks_apart
