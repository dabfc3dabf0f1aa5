use Rattle.std.proofs.Common.{sym, ap, ◌∙◌}
use Rattle.zone_model.proofs.Cycling.{free_stays}
use Rattle.zone_escape.specs.Cores.{CoreShown}
use Rattle.auto_zone.proofs.Turning.{took, turn_of, grew_at, set_near, belongs_near, flush_grew, flush_options, after_flush, flush_synced, flush_off}
use Rattle.auto_zone.proofs.turn.publish.Goals as goal

pub flush-done-requires : goal.flush-done-requires
flush-done-requires g c = belongs_near free_stays c.args.seat c.args.local.now c.value.result.now c.requires.always (took c.args.gate.now c.args.seat c.hold-held.result.value c.value.result.now c.requires.gate c.hold-held.ensures.seen c.hold-held.ensures.own c.hold-held.ensures.options c.value.ensures.value)

pub give_back-requires-clause-options : goal.give_back-requires-clause-options
give_back-requires-clause-options g c = flush_options c.flush-done.result c.args.local.now c.flush-done.new.local c.value.result.now c.flush-done.new.self c.flush-done.ensures.ok c.flush-done.ensures.err ∙ ap (λ (k : CoreShown). k.heap.options) (c.value.ensures.value ∙ sym c.hold-held.ensures.was)

pub give_back-requires-clause-grew : goal.give_back-requires-clause-grew
give_back-requires-clause-grew g c = grew_at c.args.seat c.hold-held.result c.args.local.now c.value.result.now c.flush-done.new.self c.hold-held.ensures.seat c.requires.always.thread c.hold-held.ensures.was c.value.ensures.value (flush_grew c.args.local.now c.flush-done.new.local c.value.result.now c.flush-done.new.self (set_near free_stays c.args.seat c.args.local.now c.value.result.now c.requires.always (took c.args.gate.now c.args.seat c.hold-held.result.value c.value.result.now c.requires.gate c.hold-held.ensures.seen c.hold-held.ensures.own c.hold-held.ensures.options c.value.ensures.value)) c.flush-done.ensures.state c.flush-done.result c.flush-done.ensures.ok c.flush-done.ensures.err)

pub returns-clause-place : goal.returns-clause-place
returns-clause-place g c = (turn_of c.args.gate.now c.args.seat c.give_back.result c.hold-held.result c.value.result.now c.flush-done.new.self (took c.args.gate.now c.args.seat c.hold-held.result.value c.value.result.now c.requires.gate c.hold-held.ensures.seen c.hold-held.ensures.own c.hold-held.ensures.options c.value.ensures.value) c.requires.gate c.hold-held.ensures.seat c.hold-held.ensures.was c.value.ensures.value (flush_options c.flush-done.result c.args.local.now c.flush-done.new.local c.value.result.now c.flush-done.new.self c.flush-done.ensures.ok c.flush-done.ensures.err) c.give_back.ensures.of c.give_back.ensures.thread c.give_back.ensures.seen c.give_back.ensures.own c.give_back.ensures.all c.give_back.ensures.cut).place

pub returns-clause-always : goal.returns-clause-always
returns-clause-always g c = after_flush free_stays c.args.seat c.give_back.result c.args.local.now c.flush-done.new.local c.value.result.now c.flush-done.new.self c.requires.always (turn_of c.args.gate.now c.args.seat c.give_back.result c.hold-held.result c.value.result.now c.flush-done.new.self (took c.args.gate.now c.args.seat c.hold-held.result.value c.value.result.now c.requires.gate c.hold-held.ensures.seen c.hold-held.ensures.own c.hold-held.ensures.options c.value.ensures.value) c.requires.gate c.hold-held.ensures.seat c.hold-held.ensures.was c.value.ensures.value (flush_options c.flush-done.result c.args.local.now c.flush-done.new.local c.value.result.now c.flush-done.new.self c.flush-done.ensures.ok c.flush-done.ensures.err) c.give_back.ensures.of c.give_back.ensures.thread c.give_back.ensures.seen c.give_back.ensures.own c.give_back.ensures.all c.give_back.ensures.cut) c.flush-done.result c.flush-done.ensures.legal c.flush-done.ensures.state c.flush-done.ensures.ok c.flush-done.ensures.err

pub returns-clause-ok : goal.returns-clause-ok
returns-clause-ok g c = flush_synced free_stays c.args.seat c.give_back.result c.args.local.now c.flush-done.new.local c.value.result.now c.flush-done.new.self c.requires.always (turn_of c.args.gate.now c.args.seat c.give_back.result c.hold-held.result c.value.result.now c.flush-done.new.self (took c.args.gate.now c.args.seat c.hold-held.result.value c.value.result.now c.requires.gate c.hold-held.ensures.seen c.hold-held.ensures.own c.hold-held.ensures.options c.value.ensures.value) c.requires.gate c.hold-held.ensures.seat c.hold-held.ensures.was c.value.ensures.value (flush_options c.flush-done.result c.args.local.now c.flush-done.new.local c.value.result.now c.flush-done.new.self c.flush-done.ensures.ok c.flush-done.ensures.err) c.give_back.ensures.of c.give_back.ensures.thread c.give_back.ensures.seen c.give_back.ensures.own c.give_back.ensures.all c.give_back.ensures.cut) c.flush-done.result c.flush-done.ensures.ok

pub returns-clause-err : goal.returns-clause-err
returns-clause-err g c = flush_off free_stays c.args.seat c.give_back.result c.args.local.now c.flush-done.new.local c.value.result.now c.flush-done.new.self c.requires.always (turn_of c.args.gate.now c.args.seat c.give_back.result c.hold-held.result c.value.result.now c.flush-done.new.self (took c.args.gate.now c.args.seat c.hold-held.result.value c.value.result.now c.requires.gate c.hold-held.ensures.seen c.hold-held.ensures.own c.hold-held.ensures.options c.value.ensures.value) c.requires.gate c.hold-held.ensures.seat c.hold-held.ensures.was c.value.ensures.value (flush_options c.flush-done.result c.args.local.now c.flush-done.new.local c.value.result.now c.flush-done.new.self c.flush-done.ensures.ok c.flush-done.ensures.err) c.give_back.ensures.of c.give_back.ensures.thread c.give_back.ensures.seen c.give_back.ensures.own c.give_back.ensures.all c.give_back.ensures.cut) c.flush-done.result c.flush-done.ensures.err
