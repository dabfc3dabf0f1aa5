use Rattle.std.proofs.Common.{subst, sym}
use Rattle.zone_escape.specs.Cores.{CoreShown, IsCore, IsCoreOf}
use Rattle.zone_escape.proofs.Cores.{counted}
use Rattle.zone_escape.proofs.zone_core.Core.stats.Goals as goal

pub returns-clause-stats : goal.returns-clause-stats
returns-clause-stats c = λ z is. let k = subst (λ (k : CoreShown). IsCoreOf k z) (sym c.self.view_is) is in counted c.self.inside.heap z c.stats.result k.heap.stands c.stats.ensures.step

pub returns-clause-state : goal.returns-clause-state
returns-clause-state c = subst IsCore c.self.view_is c.self.invariant
