use Rattle.auto_zone.proofs.CoreStates.{is_core_of}
use Rattle.auto_zone.proofs.gated.Gated.ended.Goals as goal

pub returns-clause-stats : goal.returns-clause-stats
returns-clause-stats c = λ z ends. c.stats-stats.ensures.stats z (is_core_of c.self.inside.core c.stats-stats.ensures.state z (rw (c.self.view_is) ends))

pub returns-clause-legal : goal.returns-clause-legal
returns-clause-legal c = rw (← c.self.view_is) c.into_journal.ensures.legal
