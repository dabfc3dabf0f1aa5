use Rattle.std.proofs.Common.{sym, ap, ◌∙◌}
use Rattle.zone_model.proofs.Cycling.{free_stays}
use Rattle.zone_escape.specs.Cores.{CoreShown}
use Rattle.auto_zone.proofs.Turning.{took, turn_of, grew_at, set_near, phase_near}
use Rattle.auto_zone.proofs.Closing.{begin_grew, begin_options, begin_phase, begin_refused, begin_called, begin_off, narrow}
use Rattle.auto_zone.proofs.collect.opened.Goals as goal

pub begin-begun-requires-clause-near : goal.begin-begun-requires-clause-near
begin-begun-requires-clause-near g c = λ z ends. (set_near free_stays c.args.seat c.args.local.now c.value.result.now c.requires.always (took c.args.gate.now c.args.seat c.hold-held.result.value c.value.result.now c.requires.gate c.hold-held.ensures.seen c.hold-held.ensures.own c.hold-held.ensures.options c.value.ensures.value) z ends, phase_near free_stays c.args.seat c.args.local.now c.value.result.now c.requires.always (took c.args.gate.now c.args.seat c.hold-held.result.value c.value.result.now c.requires.gate c.hold-held.ensures.seen c.hold-held.ensures.own c.hold-held.ensures.options c.value.ensures.value) z ends)

pub give_back-requires-clause-options : goal.give_back-requires-clause-options
give_back-requires-clause-options g c = begin_options c.args.mode c.begin-begun.result c.args.local.now c.begin-begun.new.local c.value.result.now c.begin-begun.new.self c.begin-begun.ensures.ok c.begin-begun.ensures.err ∙ ap (λ (k : CoreShown). k.heap.options) (c.value.ensures.value ∙ sym c.hold-held.ensures.was)

pub give_back-requires-clause-grew : goal.give_back-requires-clause-grew
give_back-requires-clause-grew g c = grew_at c.args.seat c.hold-held.result c.args.local.now c.value.result.now c.begin-begun.new.self c.hold-held.ensures.seat c.requires.always.thread c.hold-held.ensures.was c.value.ensures.value (begin_grew c.args.mode c.args.seat c.args.seat c.args.local.now c.begin-begun.new.local c.value.result.now c.begin-begun.new.self c.begin-begun.result (set_near free_stays c.args.seat c.args.local.now c.value.result.now c.requires.always (took c.args.gate.now c.args.seat c.hold-held.result.value c.value.result.now c.requires.gate c.hold-held.ensures.seen c.hold-held.ensures.own c.hold-held.ensures.options c.value.ensures.value)) c.begin-begun.ensures.state c.begin-begun.ensures.ok c.begin-begun.ensures.err)

pub returns-clause-place : goal.returns-clause-place
returns-clause-place g c = (turn_of c.args.gate.now c.args.seat c.give_back.result c.hold-held.result c.value.result.now c.begin-begun.new.self (took c.args.gate.now c.args.seat c.hold-held.result.value c.value.result.now c.requires.gate c.hold-held.ensures.seen c.hold-held.ensures.own c.hold-held.ensures.options c.value.ensures.value) c.requires.gate c.hold-held.ensures.seat c.hold-held.ensures.was c.value.ensures.value (begin_options c.args.mode c.begin-begun.result c.args.local.now c.begin-begun.new.local c.value.result.now c.begin-begun.new.self c.begin-begun.ensures.ok c.begin-begun.ensures.err) c.give_back.ensures.of c.give_back.ensures.thread c.give_back.ensures.seen c.give_back.ensures.own c.give_back.ensures.all c.give_back.ensures.cut).place

pub returns-clause-always : goal.returns-clause-always
returns-clause-always g c = begin_refused c.args.mode c.args.seat c.give_back.result c.args.local.now c.begin-begun.new.local c.value.result.now c.begin-begun.new.self c.requires.always (turn_of c.args.gate.now c.args.seat c.give_back.result c.hold-held.result c.value.result.now c.begin-begun.new.self (took c.args.gate.now c.args.seat c.hold-held.result.value c.value.result.now c.requires.gate c.hold-held.ensures.seen c.hold-held.ensures.own c.hold-held.ensures.options c.value.ensures.value) c.requires.gate c.hold-held.ensures.seat c.hold-held.ensures.was c.value.ensures.value (begin_options c.args.mode c.begin-begun.result c.args.local.now c.begin-begun.new.local c.value.result.now c.begin-begun.new.self c.begin-begun.ensures.ok c.begin-begun.ensures.err) c.give_back.ensures.of c.give_back.ensures.thread c.give_back.ensures.seen c.give_back.ensures.own c.give_back.ensures.all c.give_back.ensures.cut) c.begin-begun.ensures.state c.begin-begun.result c.begin-begun.ensures.legal c.begin-begun.ensures.err

pub returns-clause-phase : goal.returns-clause-phase
returns-clause-phase g c = begin_phase c.args.mode c.args.seat c.give_back.result c.args.local.now c.begin-begun.new.local c.value.result.now c.begin-begun.new.self c.requires.always (turn_of c.args.gate.now c.args.seat c.give_back.result c.hold-held.result c.value.result.now c.begin-begun.new.self (took c.args.gate.now c.args.seat c.hold-held.result.value c.value.result.now c.requires.gate c.hold-held.ensures.seen c.hold-held.ensures.own c.hold-held.ensures.options c.value.ensures.value) c.requires.gate c.hold-held.ensures.seat c.hold-held.ensures.was c.value.ensures.value (begin_options c.args.mode c.begin-begun.result c.args.local.now c.begin-begun.new.local c.value.result.now c.begin-begun.new.self c.begin-begun.ensures.ok c.begin-begun.ensures.err) c.give_back.ensures.of c.give_back.ensures.thread c.give_back.ensures.seen c.give_back.ensures.own c.give_back.ensures.all c.give_back.ensures.cut) c.begin-begun.ensures.state c.begin-begun.result c.begin-begun.ensures.ok

pub returns-clause-ok : goal.returns-clause-ok
returns-clause-ok g c = begin_called c.args.mode c.args.seat c.give_back.result c.args.local.now c.begin-begun.new.local c.value.result.now c.begin-begun.new.self c.requires.always (turn_of c.args.gate.now c.args.seat c.give_back.result c.hold-held.result c.value.result.now c.begin-begun.new.self (took c.args.gate.now c.args.seat c.hold-held.result.value c.value.result.now c.requires.gate c.hold-held.ensures.seen c.hold-held.ensures.own c.hold-held.ensures.options c.value.ensures.value) c.requires.gate c.hold-held.ensures.seat c.hold-held.ensures.was c.value.ensures.value (begin_options c.args.mode c.begin-begun.result c.args.local.now c.begin-begun.new.local c.value.result.now c.begin-begun.new.self c.begin-begun.ensures.ok c.begin-begun.ensures.err) c.give_back.ensures.of c.give_back.ensures.thread c.give_back.ensures.seen c.give_back.ensures.own c.give_back.ensures.all c.give_back.ensures.cut) c.begin-begun.ensures.state c.begin-begun.result c.begin-begun.ensures.ok

pub returns-clause-narrow : goal.returns-clause-narrow
returns-clause-narrow g c = narrow c.args.seat c.give_back.result c.value.result.now c.begin-begun.new.self c.begin-begun.result (turn_of c.args.gate.now c.args.seat c.give_back.result c.hold-held.result c.value.result.now c.begin-begun.new.self (took c.args.gate.now c.args.seat c.hold-held.result.value c.value.result.now c.requires.gate c.hold-held.ensures.seen c.hold-held.ensures.own c.hold-held.ensures.options c.value.ensures.value) c.requires.gate c.hold-held.ensures.seat c.hold-held.ensures.was c.value.ensures.value (begin_options c.args.mode c.begin-begun.result c.args.local.now c.begin-begun.new.local c.value.result.now c.begin-begun.new.self c.begin-begun.ensures.ok c.begin-begun.ensures.err) c.give_back.ensures.of c.give_back.ensures.thread c.give_back.ensures.seen c.give_back.ensures.own c.give_back.ensures.all c.give_back.ensures.cut) c.begin-begun.ensures.white

pub returns-clause-err : goal.returns-clause-err
returns-clause-err g c = begin_off c.args.mode c.args.seat c.give_back.result c.args.local.now c.begin-begun.new.local c.value.result.now c.begin-begun.new.self c.requires.always (turn_of c.args.gate.now c.args.seat c.give_back.result c.hold-held.result c.value.result.now c.begin-begun.new.self (took c.args.gate.now c.args.seat c.hold-held.result.value c.value.result.now c.requires.gate c.hold-held.ensures.seen c.hold-held.ensures.own c.hold-held.ensures.options c.value.ensures.value) c.requires.gate c.hold-held.ensures.seat c.hold-held.ensures.was c.value.ensures.value (begin_options c.args.mode c.begin-begun.result c.args.local.now c.begin-begun.new.local c.value.result.now c.begin-begun.new.self c.begin-begun.ensures.ok c.begin-begun.ensures.err) c.give_back.ensures.of c.give_back.ensures.thread c.give_back.ensures.seen c.give_back.ensures.own c.give_back.ensures.all c.give_back.ensures.cut) c.begin-begun.ensures.state c.begin-begun.result c.begin-begun.ensures.err
