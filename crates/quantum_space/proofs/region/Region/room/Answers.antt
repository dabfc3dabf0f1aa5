use Rattle.std.proofs.Common.{subst, ◌≤◌}
use Rattle.quantum_space.specs.Regions.{Region'}
use Rattle.quantum_space.proofs.region.Region.room.Goals as goal

pub returns-clause-large : goal.returns-clause-large
returns-clause-large c = subst (λ (v : Region'). 64 ≤ v.map.size) c.self.view_is c.self.invariant.large
