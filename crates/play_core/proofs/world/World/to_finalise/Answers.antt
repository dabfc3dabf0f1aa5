use Rattle.std.proofs.Common.{◌≡◌}
use Rattle.zone_model.specs.Phases.{left_in}
use Rattle.play_core.proofs.Stepping.{at_end}
use Rattle.play_core.proofs.world.World.to_finalise.Goals as goal

pub returns-clause-left : goal.returns-clause-left
returns-clause-left c = rw (← c.self.view_is) (at_end c.self.inside.core c.self.inside.locals.items (λ z. c.to_finalise.result ≡ left_in z) c.to_finalise.ensures.state c.to_finalise.ensures.left)

pub returns-clause-legal : goal.returns-clause-legal
returns-clause-legal c = rw (← c.self.view_is) (c.to_finalise.ensures.state.0, c.to_finalise.ensures.state.1.ends)
