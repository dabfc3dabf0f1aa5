use Rattle.block_space.proofs.Leaving.{right_unplaced}
use Rattle.block_space.proofs.Right.{written_medium, written_small}
use Rattle.block_space.proofs.space.Space.set_in.Goals as goal

pub invariant_of-self : goal.invariant_of-self
invariant_of-self c = rw (c.set_word.ensures, c.of-word.ensures) (written_small _ _ _ _ c.self.invariant (right_unplaced _ _ _ _ c.args.word))

pub invariant_of-self-in-Medium : goal.invariant_of-self-in-Medium
invariant_of-self-in-Medium c = rw (c.set_word-in-Medium.ensures, c.of-word.ensures) (written_medium _ _ _ _ c.self.invariant (right_unplaced _ _ _ _ c.args.word))
