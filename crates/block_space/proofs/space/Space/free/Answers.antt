use Rattle.block_space.proofs.Freeing.{less_one}
use Rattle.block_space.proofs.space.Space.free.Goals as goal

pub returns-clause-less : goal.returns-clause-less
returns-clause-less c = less_one _ _ _ c.free_all.ensures.less
