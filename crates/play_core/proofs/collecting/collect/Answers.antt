use Rattle.std.proofs.Common.{refl, sym, subst}
use Rattle.zone_model.specs.declared.call.Call.TheVariants as call
use Rattle.zone_model.specs.declared.entry.Reply.{Reply}
use Rattle.zone_escape.specs.Publications.{LeavesCycle}
use Rattle.play_core.proofs.Cycles.{quiet_still}
use Rattle.play_core.proofs.Collections.{published, begun_marks, begun_is, begun_collects, may_reclaim, reclaimed_quiet}
use Rattle.play_core.proofs.collecting.collect.Goals as goal

pub returns-in-Busy-clause-quiet : goal.returns-in-Busy-clause-quiet
returns-in-Busy-clause-quiet c =
    quiet_still c.args.world.now c.step.new.self (c.in_ok-step.ensures.cycle (subst (λ (r : Reply). LeavesCycle (call.Begin c.args.mode) r) (sym c.in-Busy.is) tt))

pub close-requires : goal.close-requires
close-requires c =
    let p = published c.args.world.now c.step.new.self c.args.thread (call.Begin c.args.mode) c.in_ok-step.field-0 refl c.in_ok-step.ensures.ok c.in_ok-step.ensures.threads in
    record {
      running = p.running;
      out = p.out;
      closing = refl;
      may = begun_marks c.args.world.now c.step.new.self c.args.thread c.args.mode c.in_ok-step.field-0 p c.in_default.not-Busy;
    }

pub close-requires-2 : goal.close-requires-2
close-requires-2 c =
    let finals = c.finalise_all.ensures.entries in
    record { running = finals.1.1.running; out = finals.1.1.out; closing = refl; may = may_reclaim c.finalise_all.new.world c.args.thread c.finalise_all.ensures.settled }

pub returns : goal.returns
returns c =
    let r = c.in_ok-step.field-0 in
    let begin = c.in_ok-step.ensures in
    let p = published c.args.world.now c.step.new.self c.args.thread (call.Begin c.args.mode) r refl begin.ok begin.threads in
    let begun = begun_is c.args.world.now c.step.new.self c.args.thread c.args.mode r p c.in_default.not-Busy begin.legal.0 begin.legal.1 in
    let condemned = c.close.ensures in
    let finals = c.finalise_all.ensures.entries in
    let gone = c.close-2.ensures in
    record {
      told = begin.told;
      ok = begun_collects c.args.world.now c.step.new.self c.close.new.world c.finalise_all.new.world c.close-2.new.world c.args.thread finals.0 c.args.mode r condemned.0 gone.0
          p begun condemned.1 finals.1 gone.1;
      quiet = λ quiet. reclaimed_quiet c.finalise_all.new.world c.close-2.new.world c.args.thread gone.0 gone.1;
      err = tt;
    }
