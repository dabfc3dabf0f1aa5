use Rattle.quantum_space.proofs.Noting.{region_renoted, age_rule}
use Rattle.quantum_space.proofs.region.Region.age.Goals as goal

pub invariant_of-self : goal.invariant_of-self
invariant_of-self c = region_renoted _ age_rule _ _ c.self.invariant c.age.ensures
