use Rattle.quantum_space.proofs.Noting.{cursors_renoted, white_rule}
use Rattle.quantum_space.proofs.admin_map.AdminMap.whiten.Goals as goal

pub invariant_of-self : goal.invariant_of-self
invariant_of-self c = cursors_renoted _ white_rule _ _ _ _ c.self.invariant c.whiten_bytes.ensures.length c.whiten_bytes.ensures.each
