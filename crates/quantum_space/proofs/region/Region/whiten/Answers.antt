use Rattle.quantum_space.proofs.Noting.{region_renoted, white_rule}
use Rattle.quantum_space.proofs.region.Region.whiten.Goals as goal

pub invariant_of-self : goal.invariant_of-self
invariant_of-self c = region_renoted _ white_rule _ _ c.self.invariant c.whiten.ensures
