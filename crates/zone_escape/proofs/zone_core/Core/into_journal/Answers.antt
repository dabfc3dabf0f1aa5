use Rattle.std.proofs.Common.{subst}
use Rattle.zone_model.specs.History.{Legal}
use Rattle.zone_escape.specs.Cores.{CoreShown}
use Rattle.zone_escape.proofs.Cores.{core_legal}
use Rattle.zone_escape.proofs.zone_core.Core.into_journal.Goals as goal

pub returns-clause-legal : goal.returns-clause-legal
returns-clause-legal c = subst (λ (k : CoreShown). Legal k.heap.options k.journal.entries) c.self.view_is (core_legal _ c.self.invariant)
