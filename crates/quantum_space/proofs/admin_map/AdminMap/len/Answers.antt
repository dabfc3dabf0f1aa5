use Rattle.std.proofs.Common.{◌≡◌, ◌*◌, length, subst}
use Rattle.quantum_space.specs.AdminMaps.{AdminMap'}
use Rattle.quantum_space.proofs.admin_map.AdminMap.len.Goals as goal

pub returns-clause-sized : goal.returns-clause-sized
returns-clause-sized c = subst (λ (v : AdminMap'). length v.bytes ≡ v.subzones * v.size) c.self.view_is c.self.invariant.sized
