use Rattle.std.proofs.Common.{ap, ◌∙◌}
use Rattle.zone_model.specs.State.{opening}
use Rattle.zone_model.specs.Stats.{stats_of}
use Rattle.zone_model.proofs.Determined.{run_determined}
use Rattle.play_core.proofs.world.World.stats.Goals as goal

pub returns-clause-stats : goal.returns-clause-stats
returns-clause-stats c = rw (← c.self.view_is) (λ z ends.
    let is = c.stats.ensures.state in
    c.stats.ensures.stats is.0 is.1 ∙ ap stats_of (run_determined (opening c.self.inside.core.heap.options) c.self.inside.core.journal.entries is.0 z is.1.ends ends))

pub returns-clause-legal : goal.returns-clause-legal
returns-clause-legal c = rw (← c.self.view_is) (c.stats.ensures.state.0, c.stats.ensures.state.1.ends)
