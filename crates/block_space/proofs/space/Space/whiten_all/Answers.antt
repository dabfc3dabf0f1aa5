use Rattle.block_space.proofs.Noting.{all_white}
use Rattle.block_space.proofs.Whitening.{white_all}
use Rattle.block_space.proofs.space.Space.whiten_all.Goals as goal

pub returns-clause-blocks : goal.returns-clause-blocks
returns-clause-blocks c = all_white _ _ c.is_sound.ensures c.whiten.ensures

pub returns-clause-by_quantum : goal.returns-clause-by_quantum
returns-clause-by_quantum c = white_all _ _ c.is_sound.ensures c.whiten.ensures
