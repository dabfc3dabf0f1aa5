use Rattle.heap_cycle.proofs.Unshown.{added_unshown}
use Rattle.heap_cycle.proofs.laws.an_added_block_is_not_shown.Goals as goal

pub returns : goal.returns
returns c = λ t u o id k m blocks cards absent began. added_unshown t u id k m blocks absent began o cards
