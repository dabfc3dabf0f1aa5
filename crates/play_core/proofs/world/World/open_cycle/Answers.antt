use Rattle.std.proofs.Common.{◌≡◌, option_map}
use Rattle.zone_model.specs.State.{Cycle}
use Rattle.play_core.proofs.Stepping.{at_end}
use Rattle.play_core.proofs.world.World.open_cycle.Goals as goal

pub returns : goal.returns
returns c =
    rw (← c.self.view_is) (at_end c.self.inside.core c.self.inside.locals.items (λ z. c.open_cycle.result ≡ option_map (λ (d : Cycle). d.owner) z.cycle) c.open_cycle.ensures.state c.open_cycle.ensures.owner)
