use Rattle.auto_zone.specs.Shown.{seat_in}
use Rattle.auto_zone.proofs.Locally.{always_solo}
use Rattle.auto_zone.proofs.session.Session.part.Goals as goal

pub returns-clause-legal : goal.returns-clause-legal
returns-clause-legal c = rw (← c.self.view_is) (c.self.invariant.1.state, c.self.invariant.1.ends)

pub returns-clause-solo : goal.returns-clause-solo
returns-clause-solo c = rw (← c.self.view_is) (always_solo (seat_in c.self.inside.seat) c.self.inside.local c.self.invariant.1)
