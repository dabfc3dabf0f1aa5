use Rattle.auto_zone.specs.Shown.{seat_in}
use Rattle.auto_zone.proofs.Locally.{same_always}
use Rattle.auto_zone.proofs.session.Session.reserve_pending.Goals as goal

pub invariant_of-self : goal.invariant_of-self
invariant_of-self c = (c.self.invariant.0, same_always (seat_in c.self.inside.seat) c.self.inside.local c.reserve_pending.new.self c.reserve_pending.ensures.same c.self.invariant.1)
