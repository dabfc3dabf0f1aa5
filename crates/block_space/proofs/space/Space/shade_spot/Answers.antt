use Rattle.block_space.proofs.Right.{noted_medium, noted_small}
use Rattle.block_space.proofs.space.Space.shade_spot.Goals as goal

pub invariant_of-self : goal.invariant_of-self
invariant_of-self c = rw c.set_byte.ensures (noted_small _ _ _ c.self.invariant)

pub invariant_of-self-in-Medium : goal.invariant_of-self-in-Medium
invariant_of-self-in-Medium c = rw c.set_byte-in-Medium.ensures (noted_medium _ _ _ c.self.invariant)
