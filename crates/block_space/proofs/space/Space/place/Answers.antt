use Rattle.block_space.proofs.Mapping.{block_more, block_more_in}
use Rattle.block_space.proofs.space.Space.place.Goals as goal

pub returns-clause-more : goal.returns-clause-more
returns-clause-more c = block_more _ _ c.is_sound.ensures _ _ _ c.place_first.ensures

pub returns-clause-by_quantum : goal.returns-clause-by_quantum
returns-clause-by_quantum c = block_more_in _ _ c.is_sound.ensures _ _ _ c.place_first.ensures
