use Rattle.quantum_space.proofs.Noting.{cursors_renoted, age_rule}
use Rattle.quantum_space.proofs.admin_map.AdminMap.age.Goals as goal

pub invariant_of-self : goal.invariant_of-self
invariant_of-self c = cursors_renoted _ age_rule _ _ _ _ c.self.invariant c.age_bytes.ensures.length c.age_bytes.ensures.each
