use Rattle.std.proofs.Common.{sym, ap, ◌∙◌}
use Rattle.zone_history.specs.Journals.{Recorded}
use Rattle.zone_model.proofs.Cycling.{marking_stays}
use Rattle.zone_escape.specs.Cores.{CoreShown}
use Rattle.auto_zone.proofs.Turning.{took, turn_of, grew_at, same_grew, belongs_near, phase_near}
use Rattle.auto_zone.proofs.Closing.{after_slice, sliced}
use Rattle.auto_zone.proofs.collect.slice_turn.Goals as goal

pub slice-done-requires-clause-belongs : goal.slice-done-requires-clause-belongs
slice-done-requires-clause-belongs g c = belongs_near marking_stays c.args.seat c.args.local.now c.value.result.now c.requires.always (took c.args.gate.now c.args.seat c.hold-held.result.value c.value.result.now c.requires.gate c.hold-held.ensures.seen c.hold-held.ensures.own c.hold-held.ensures.options c.value.ensures.value)

pub slice-done-requires-clause-marking : goal.slice-done-requires-clause-marking
slice-done-requires-clause-marking g c = λ z is. phase_near marking_stays c.args.seat c.args.local.now c.value.result.now c.requires.always (took c.args.gate.now c.args.seat c.hold-held.result.value c.value.result.now c.requires.gate c.hold-held.ensures.seen c.hold-held.ensures.own c.hold-held.ensures.options c.value.ensures.value) z is.ends

pub give_back-requires-clause-options : goal.give_back-requires-clause-options
give_back-requires-clause-options g c = c.slice-done.ensures.options ∙ ap (λ (k : CoreShown). k.heap.options) (c.value.ensures.value ∙ sym c.hold-held.ensures.was)

pub give_back-requires-clause-grew : goal.give_back-requires-clause-grew
give_back-requires-clause-grew g c = grew_at c.args.seat c.hold-held.result c.args.local.now c.value.result.now c.slice-done.new.self c.hold-held.ensures.seat c.requires.always.thread c.hold-held.ensures.was c.value.ensures.value (same_grew c.args.local.now.thread c.value.result.now.journal.entries c.slice-done.new.self.journal.entries (ap (λ (j : Recorded). j.entries) c.slice-done.ensures.journal))

pub returns-clause-always : goal.returns-clause-always
returns-clause-always g c = after_slice c.args.seat c.give_back.result c.args.local.now c.value.result.now c.slice-done.new.self c.requires.always (turn_of c.args.gate.now c.args.seat c.give_back.result c.hold-held.result c.value.result.now c.slice-done.new.self (took c.args.gate.now c.args.seat c.hold-held.result.value c.value.result.now c.requires.gate c.hold-held.ensures.seen c.hold-held.ensures.own c.hold-held.ensures.options c.value.ensures.value) c.requires.gate c.hold-held.ensures.seat c.hold-held.ensures.was c.value.ensures.value c.slice-done.ensures.options c.give_back.ensures.of c.give_back.ensures.thread c.give_back.ensures.seen c.give_back.ensures.own c.give_back.ensures.all c.give_back.ensures.cut) c.slice-done.ensures.journal c.slice-done.ensures.options c.slice-done.ensures.legal

pub returns-clause-slice : goal.returns-clause-slice
returns-clause-slice g c = sliced c.args.seat c.give_back.result c.args.local.now c.value.result.now c.slice-done.new.self c.args.budget c.slice-done.result c.requires.always (turn_of c.args.gate.now c.args.seat c.give_back.result c.hold-held.result c.value.result.now c.slice-done.new.self (took c.args.gate.now c.args.seat c.hold-held.result.value c.value.result.now c.requires.gate c.hold-held.ensures.seen c.hold-held.ensures.own c.hold-held.ensures.options c.value.ensures.value) c.requires.gate c.hold-held.ensures.seat c.hold-held.ensures.was c.value.ensures.value c.slice-done.ensures.options c.give_back.ensures.of c.give_back.ensures.thread c.give_back.ensures.seen c.give_back.ensures.own c.give_back.ensures.all c.give_back.ensures.cut) c.slice-done.ensures.journal c.slice-done.ensures.scanned c.slice-done.ensures.grey
