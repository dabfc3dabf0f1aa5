use Rattle.finalise_pass.proofs.Keeping.{all_inside}
use Rattle.finalise_pass.proofs.laws.condemned_blocks_are_settled.Goals as goal

pub returns : goal.returns
returns c = λ s r within. all_inside s r within
