use Rattle.auto_zone.specs.Shown.{seat_in}
use Rattle.auto_zone.proofs.Locally.{answers_always}
use Rattle.auto_zone.proofs.session.Session.local.Goals as goal

pub invariant_of-self : goal.invariant_of-self
invariant_of-self c = (c.self.invariant.0, answers_always (seat_in c.self.inside.seat) c.self.inside.local c.call.new.self c.args.call.now c.call.result c.call.ensures.answer c.self.invariant.1)
