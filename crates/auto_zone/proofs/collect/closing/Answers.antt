use Rattle.std.proofs.Common.{sym, ap, ◌∙◌}
use Rattle.zone_escape.specs.Cores.{CoreShown}
use Rattle.auto_zone.proofs.Cycling.{stage_stays, stage_may}
use Rattle.auto_zone.proofs.Turning.{took, turn_of, grew_at, set_near, belongs_near, phase_near, stepped_grew, called}
use Rattle.auto_zone.proofs.Closing.{stage_closing, closed_tells, after_closing}
use Rattle.auto_zone.proofs.collect.closing.Goals as goal

pub close-reply-requires-clause-belongs : goal.close-reply-requires-clause-belongs
close-reply-requires-clause-belongs g c = belongs_near (stage_stays c.args.call.now c.args.left) c.args.seat c.args.local.now c.value.result.now c.requires.always (took c.args.gate.now c.args.seat c.hold-held.result.value c.value.result.now c.requires.gate c.hold-held.ensures.seen c.hold-held.ensures.own c.hold-held.ensures.options c.value.ensures.value)

pub close-reply-requires-clause-kind : goal.close-reply-requires-clause-kind
close-reply-requires-clause-kind g c = stage_closing c.args.call.now c.args.left c.requires.always.state c.args.seat.thread c.requires.always.phase

pub close-reply-requires-clause-may : goal.close-reply-requires-clause-may
close-reply-requires-clause-may g c = λ z is. stage_may c.args.call.now c.args.left z c.args.local.now.thread (phase_near (stage_stays c.args.call.now c.args.left) c.args.seat c.args.local.now c.value.result.now c.requires.always (took c.args.gate.now c.args.seat c.hold-held.result.value c.value.result.now c.requires.gate c.hold-held.ensures.seen c.hold-held.ensures.own c.hold-held.ensures.options c.value.ensures.value) z is.ends)

pub give_back-requires-clause-options : goal.give_back-requires-clause-options
give_back-requires-clause-options g c = c.close-reply.ensures.stepped.published.options ∙ ap (λ (k : CoreShown). k.heap.options) (c.value.ensures.value ∙ sym c.hold-held.ensures.was)

pub give_back-requires-clause-grew : goal.give_back-requires-clause-grew
give_back-requires-clause-grew g c = grew_at c.args.seat c.hold-held.result c.args.local.now c.value.result.now c.close-reply.new.self c.hold-held.ensures.seat c.requires.always.thread c.hold-held.ensures.was c.value.ensures.value (stepped_grew c.args.local.now c.close-reply.new.local c.value.result.now c.close-reply.new.self (set_near (stage_stays c.args.call.now c.args.left) c.args.seat c.args.local.now c.value.result.now c.requires.always (took c.args.gate.now c.args.seat c.hold-held.result.value c.value.result.now c.requires.gate c.hold-held.ensures.seen c.hold-held.ensures.own c.hold-held.ensures.options c.value.ensures.value)) c.close-reply.ensures.state c.args.call.now c.close-reply.result.0 c.close-reply.ensures.stepped)

pub returns-clause-place : goal.returns-clause-place
returns-clause-place g c = (turn_of c.args.gate.now c.args.seat c.give_back.result c.hold-held.result c.value.result.now c.close-reply.new.self (took c.args.gate.now c.args.seat c.hold-held.result.value c.value.result.now c.requires.gate c.hold-held.ensures.seen c.hold-held.ensures.own c.hold-held.ensures.options c.value.ensures.value) c.requires.gate c.hold-held.ensures.seat c.hold-held.ensures.was c.value.ensures.value c.close-reply.ensures.stepped.published.options c.give_back.ensures.of c.give_back.ensures.thread c.give_back.ensures.seen c.give_back.ensures.own c.give_back.ensures.all c.give_back.ensures.cut).place

pub returns-clause-always : goal.returns-clause-always
returns-clause-always g c = after_closing c.args.call.now c.args.left c.args.seat c.give_back.result c.args.local.now c.close-reply.new.local c.value.result.now c.close-reply.new.self c.requires.always (turn_of c.args.gate.now c.args.seat c.give_back.result c.hold-held.result c.value.result.now c.close-reply.new.self (took c.args.gate.now c.args.seat c.hold-held.result.value c.value.result.now c.requires.gate c.hold-held.ensures.seen c.hold-held.ensures.own c.hold-held.ensures.options c.value.ensures.value) c.requires.gate c.hold-held.ensures.seat c.hold-held.ensures.was c.value.ensures.value c.close-reply.ensures.stepped.published.options c.give_back.ensures.of c.give_back.ensures.thread c.give_back.ensures.seen c.give_back.ensures.own c.give_back.ensures.all c.give_back.ensures.cut) c.close-reply.result.0 c.close-reply.ensures.state c.close-reply.ensures.stepped c.close-reply.result.1 c.close-reply.ensures.left

pub returns-clause-called : goal.returns-clause-called
returns-clause-called g c = called (stage_stays c.args.call.now c.args.left) c.args.seat c.give_back.result c.args.local.now c.close-reply.new.local c.value.result.now c.close-reply.new.self c.requires.always (turn_of c.args.gate.now c.args.seat c.give_back.result c.hold-held.result c.value.result.now c.close-reply.new.self (took c.args.gate.now c.args.seat c.hold-held.result.value c.value.result.now c.requires.gate c.hold-held.ensures.seen c.hold-held.ensures.own c.hold-held.ensures.options c.value.ensures.value) c.requires.gate c.hold-held.ensures.seat c.hold-held.ensures.was c.value.ensures.value c.close-reply.ensures.stepped.published.options c.give_back.ensures.of c.give_back.ensures.thread c.give_back.ensures.seen c.give_back.ensures.own c.give_back.ensures.all c.give_back.ensures.cut) c.args.call.now c.close-reply.result.0 c.close-reply.ensures.stepped

pub returns-clause-tells : goal.returns-clause-tells
returns-clause-tells g c = closed_tells c.args.call.now c.args.left c.args.seat c.give_back.result c.args.local.now c.close-reply.new.local c.value.result.now c.close-reply.new.self c.requires.always (turn_of c.args.gate.now c.args.seat c.give_back.result c.hold-held.result c.value.result.now c.close-reply.new.self (took c.args.gate.now c.args.seat c.hold-held.result.value c.value.result.now c.requires.gate c.hold-held.ensures.seen c.hold-held.ensures.own c.hold-held.ensures.options c.value.ensures.value) c.requires.gate c.hold-held.ensures.seat c.hold-held.ensures.was c.value.ensures.value c.close-reply.ensures.stepped.published.options c.give_back.ensures.of c.give_back.ensures.thread c.give_back.ensures.seen c.give_back.ensures.own c.give_back.ensures.all c.give_back.ensures.cut) c.close-reply.result.0 c.close-reply.ensures.state c.close-reply.ensures.stepped
