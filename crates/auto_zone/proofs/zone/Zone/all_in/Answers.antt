use Rattle.std.proofs.Common.{◌∙◌}
use Rattle.auto_zone.proofs.Seats.{all_in_is}
use Rattle.auto_zone.proofs.zone.Zone.all_in.Goals as goal

pub returns : goal.returns
returns c = rw (← c.self.view_is) (all_in_is c.self.inside.gate c.args.ended.now c.are_in.result c.as_slice.result.now (c.as_slice.ensures.value ∙ c.self.invariant) c.are_in.ensures)
