use Rattle.block_space.proofs.Right.{greyed_medium, greyed_small}
use Rattle.block_space.proofs.space.Space.grey_spot.Goals as goal

pub invariant_of-self : goal.invariant_of-self
invariant_of-self c = rw c.grey_in.ensures.changed (greyed_small _ _ _ c.grey_in.result c.self.invariant)

pub invariant_of-self-in-Medium : goal.invariant_of-self-in-Medium
invariant_of-self-in-Medium c = rw c.grey_in-in-Medium.ensures.changed (greyed_medium _ _ _ c.grey_in-in-Medium.result c.self.invariant)
