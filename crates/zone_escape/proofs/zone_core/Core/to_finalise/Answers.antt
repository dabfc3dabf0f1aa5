use Rattle.std.proofs.Common.{subst}
use Rattle.zone_escape.specs.Cores.{IsCore}
use Rattle.zone_escape.proofs.zone_core.Core.to_finalise.Goals as goal

pub returns-clause-state : goal.returns-clause-state
returns-clause-state c = subst IsCore c.self.view_is c.self.invariant
