use Rattle.std.proofs.Common.{refl, sym, ap, ◌∙◌}
use Rattle.zone_escape.specs.Cores.{CoreShown}
use Rattle.zone_model.specs.declared.call.Call.TheVariants as call
use Rattle.zone_model.proofs.Cycling.{free_stays}
use Rattle.auto_zone.proofs.Turning.{took, turn_of, grew_at, set_near, belongs_near, phase_near, may_call, step_grew, step_options, after_last, step_called, step_off}
use Rattle.auto_zone.proofs.turn.last.Goals as goal

pub step-reply-requires-clause-belongs : goal.step-reply-requires-clause-belongs
step-reply-requires-clause-belongs g c = belongs_near free_stays c.args.seat c.args.local.now c.value.result.now c.requires.always (took c.args.gate.now c.args.seat c.hold-held.result.value c.value.result.now c.requires.gate c.hold-held.ensures.seen c.hold-held.ensures.own c.hold-held.ensures.options c.value.ensures.value)

pub step-reply-requires-clause-may : goal.step-reply-requires-clause-may
step-reply-requires-clause-may g c = λ z is. may_call z c.args.local.now.thread call.Leave refl (phase_near free_stays c.args.seat c.args.local.now c.value.result.now c.requires.always (took c.args.gate.now c.args.seat c.hold-held.result.value c.value.result.now c.requires.gate c.hold-held.ensures.seen c.hold-held.ensures.own c.hold-held.ensures.options c.value.ensures.value) z is.ends)

pub give_back-requires-clause-options : goal.give_back-requires-clause-options
give_back-requires-clause-options g c = step_options c.step-reply.result c.args.local.now c.step-reply.new.local c.value.result.now c.step-reply.new.self call.Leave c.step-reply.ensures.ok c.step-reply.ensures.err ∙ ap (λ (k : CoreShown). k.heap.options) (c.value.ensures.value ∙ sym c.hold-held.ensures.was)

pub give_back-requires-clause-grew : goal.give_back-requires-clause-grew
give_back-requires-clause-grew g c = grew_at c.args.seat c.hold-held.result c.args.local.now c.value.result.now c.step-reply.new.self c.hold-held.ensures.seat c.requires.always.thread c.hold-held.ensures.was c.value.ensures.value (step_grew c.args.local.now c.step-reply.new.local c.value.result.now c.step-reply.new.self (set_near free_stays c.args.seat c.args.local.now c.value.result.now c.requires.always (took c.args.gate.now c.args.seat c.hold-held.result.value c.value.result.now c.requires.gate c.hold-held.ensures.seen c.hold-held.ensures.own c.hold-held.ensures.options c.value.ensures.value)) c.step-reply.ensures.state c.step-reply.result call.Leave c.step-reply.ensures.ok c.step-reply.ensures.err)

pub returns-clause-place : goal.returns-clause-place
returns-clause-place g c = (turn_of c.args.gate.now c.args.seat c.give_back.result c.hold-held.result c.value.result.now c.step-reply.new.self (took c.args.gate.now c.args.seat c.hold-held.result.value c.value.result.now c.requires.gate c.hold-held.ensures.seen c.hold-held.ensures.own c.hold-held.ensures.options c.value.ensures.value) c.requires.gate c.hold-held.ensures.seat c.hold-held.ensures.was c.value.ensures.value (step_options c.step-reply.result c.args.local.now c.step-reply.new.local c.value.result.now c.step-reply.new.self call.Leave c.step-reply.ensures.ok c.step-reply.ensures.err) c.give_back.ensures.of c.give_back.ensures.thread c.give_back.ensures.seen c.give_back.ensures.own c.give_back.ensures.all c.give_back.ensures.cut).place

pub returns-clause-always : goal.returns-clause-always
returns-clause-always g c = after_last free_stays c.args.seat c.give_back.result c.args.local.now c.step-reply.new.local c.value.result.now c.step-reply.new.self c.requires.always (turn_of c.args.gate.now c.args.seat c.give_back.result c.hold-held.result c.value.result.now c.step-reply.new.self (took c.args.gate.now c.args.seat c.hold-held.result.value c.value.result.now c.requires.gate c.hold-held.ensures.seen c.hold-held.ensures.own c.hold-held.ensures.options c.value.ensures.value) c.requires.gate c.hold-held.ensures.seat c.hold-held.ensures.was c.value.ensures.value (step_options c.step-reply.result c.args.local.now c.step-reply.new.local c.value.result.now c.step-reply.new.self call.Leave c.step-reply.ensures.ok c.step-reply.ensures.err) c.give_back.ensures.of c.give_back.ensures.thread c.give_back.ensures.seen c.give_back.ensures.own c.give_back.ensures.all c.give_back.ensures.cut) c.step-reply.result c.step-reply.ensures.legal c.step-reply.ensures.state c.step-reply.ensures.err

pub returns-clause-ok : goal.returns-clause-ok
returns-clause-ok g c = step_called free_stays c.args.seat c.give_back.result c.args.local.now c.step-reply.new.local c.value.result.now c.step-reply.new.self c.requires.always (turn_of c.args.gate.now c.args.seat c.give_back.result c.hold-held.result c.value.result.now c.step-reply.new.self (took c.args.gate.now c.args.seat c.hold-held.result.value c.value.result.now c.requires.gate c.hold-held.ensures.seen c.hold-held.ensures.own c.hold-held.ensures.options c.value.ensures.value) c.requires.gate c.hold-held.ensures.seat c.hold-held.ensures.was c.value.ensures.value (step_options c.step-reply.result c.args.local.now c.step-reply.new.local c.value.result.now c.step-reply.new.self call.Leave c.step-reply.ensures.ok c.step-reply.ensures.err) c.give_back.ensures.of c.give_back.ensures.thread c.give_back.ensures.seen c.give_back.ensures.own c.give_back.ensures.all c.give_back.ensures.cut) c.step-reply.result call.Leave c.step-reply.ensures.ok

pub returns-clause-err : goal.returns-clause-err
returns-clause-err g c = step_off free_stays c.args.seat c.give_back.result c.args.local.now c.step-reply.new.local c.value.result.now c.step-reply.new.self c.requires.always (turn_of c.args.gate.now c.args.seat c.give_back.result c.hold-held.result c.value.result.now c.step-reply.new.self (took c.args.gate.now c.args.seat c.hold-held.result.value c.value.result.now c.requires.gate c.hold-held.ensures.seen c.hold-held.ensures.own c.hold-held.ensures.options c.value.ensures.value) c.requires.gate c.hold-held.ensures.seat c.hold-held.ensures.was c.value.ensures.value (step_options c.step-reply.result c.args.local.now c.step-reply.new.local c.value.result.now c.step-reply.new.self call.Leave c.step-reply.ensures.ok c.step-reply.ensures.err) c.give_back.ensures.of c.give_back.ensures.thread c.give_back.ensures.seen c.give_back.ensures.own c.give_back.ensures.all c.give_back.ensures.cut) c.step-reply.result c.step-reply.ensures.err
