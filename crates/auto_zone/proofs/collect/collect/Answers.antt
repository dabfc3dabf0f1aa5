use Rattle.std.proofs.Common.{subst}
use Rattle.zone_model.specs.declared.call.Call.TheVariants as call
use Rattle.auto_zone.specs.Stages.{Opened, begun_reply}
use Rattle.auto_zone.specs.Sessions.{AlwaysIn, Called}
use Rattle.auto_zone.specs.Collects.{IsNarrow}
use Rattle.auto_zone.proofs.Going.{collected_if, refused_if, ok_of}
use Rattle.auto_zone.proofs.collect.collect.Goals as goal

pub returns-then-not-begun-clause-ok : goal.returns-then-not-begun-clause-ok
returns-then-not-begun-clause-ok g c =
    refused_if c.args.seat c.opened-seat.result.0 c.args.local.now c.opened-seat.new.local c.args.mode c.args.budget c.in-Ok.begun c.if-not-begun.true c.opened-seat.ensures.place
    (ok_of (λ b. Called c.args.seat c.opened-seat.result.0 c.args.local.now c.opened-seat.new.local (call.Begin c.args.mode) (begun_reply b)) c.opened-seat.result.1 c.in-Ok.begun c.in-Ok.is c.opened-seat.ensures.ok)
    (subst (λ b. AlwaysIn (Opened b) c.opened-seat.result.0 c.opened-seat.new.local) c.if-not-begun.true (ok_of (λ b. AlwaysIn (Opened b) c.opened-seat.result.0 c.opened-seat.new.local) c.opened-seat.result.1 c.in-Ok.begun c.in-Ok.is c.opened-seat.ensures.phase))

pub returns-clause-ok : goal.returns-clause-ok
returns-clause-ok g c =
    collected_if c.args.seat c.opened-seat.result.0 c.settle-seat.result.0 c.args.local.now c.opened-seat.new.local c.settle-seat.new.local c.args.mode c.args.budget c.settle-seat.result.1 c.in-Ok.begun c.if-not-begun.false c.opened-seat.ensures.place
    (ok_of (λ b. Called c.args.seat c.opened-seat.result.0 c.args.local.now c.opened-seat.new.local (call.Begin c.args.mode) (begun_reply b)) c.opened-seat.result.1 c.in-Ok.begun c.in-Ok.is c.opened-seat.ensures.ok)
    (ok_of (λ b. IsNarrow b c.args.seat c.opened-seat.result.0) c.opened-seat.result.1 c.in-Ok.begun c.in-Ok.is c.opened-seat.ensures.narrow)
    c.settle-seat.ensures.closes c.settle-seat.ensures.out c.settle-seat.ensures.always
