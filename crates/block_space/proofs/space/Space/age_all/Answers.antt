use Rattle.block_space.proofs.Noting.{all_older}
use Rattle.block_space.proofs.space.Space.age_all.Goals as goal

pub returns-clause-blocks : goal.returns-clause-blocks
returns-clause-blocks c = all_older _ _ c.is_sound.ensures c.age.ensures
