use Rattle.std.proofs.Common.{subst}
use Rattle.zone_escape.specs.Cores.{IsCore}
use Rattle.zone_escape.proofs.Cores.{core_legal}
use Rattle.zone_escape.proofs.zone_core.Core.entries.Goals as goal

pub returns-clause-state : goal.returns-clause-state
returns-clause-state c = subst IsCore c.self.view_is c.self.invariant

pub returns-clause-legal : goal.returns-clause-legal
returns-clause-legal c = core_legal _ (returns-clause-state c)
