use Rattle.std.proofs.Common.{subst}
use Rattle.quantum_space.specs.Regions.{Region', IsRegion}
use Rattle.quantum_space.proofs.region.Region.quanta.Goals as goal

pub returns-clause-whole : goal.returns-clause-whole
returns-clause-whole c = subst (λ (v : Region'). IsRegion v) c.self.view_is c.self.invariant
