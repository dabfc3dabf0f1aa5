use Rattle.std.proofs.Common.{sym, subst}
use Rattle.zone_model.specs.declared.call.Call.TheVariants as call
use Rattle.zone_escape.specs.Publications.{Stepped}
use Rattle.auto_zone.specs.Stages.{begun_reply}
use Rattle.auto_zone.proofs.Closing.{begun_stepped}
use Rattle.auto_zone.proofs.gated.Gated.begin.Goals as goal

pub step-requires-clause-belongs : goal.step-requires-clause-belongs
step-requires-clause-belongs c = λ z is. ((rw (← c.self.view_is) at c.requires.near) z is.ends).0

pub step-requires-clause-may : goal.step-requires-clause-may
step-requires-clause-may c = λ z is. ((rw (← c.self.view_is) at c.requires.near) z is.ends).1

pub returns-clause-ok : goal.returns-clause-ok
returns-clause-ok c = rw (← c.self.view_is)
    (subst (λ b. Stepped c.args.local.now c.step.new.local c.self.inside.core c.step.new.core (call.Begin c.args.mode) (begun_reply b)) (sym c.is_begun.ensures)
    (begun_stepped c.args.mode c.args.local.now c.step.new.local c.self.inside.core c.step.new.core c.in_ok-reply.reply (rw (← c.self.view_is) at c.requires.near) c.in_ok-reply.ensures.state c.in_ok-reply.ensures.ok))
