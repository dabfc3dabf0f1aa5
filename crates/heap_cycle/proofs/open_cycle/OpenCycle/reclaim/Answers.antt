use Rattle.std.proofs.Common.{◌∙◌, ap, sym}
use Rattle.az_base.specs.Ids.{among}
use Rattle.heap_cycle.proofs.Remade.{reclaimed_collects, room_for_all}
use Rattle.heap_cycle.proofs.Settled.{gone_apart, gone_there}
use Rattle.heap_cycle.proofs.open_cycle.OpenCycle.reclaim.Goals as goal

pub take_out-requires-clause-there : goal.take_out-requires-clause-there
take_out-requires-clause-there c = λ b i.
    let settled = c.settled-settled in
    gone_there c.args.tables.now settled.new.tables c.args.self settled.result.kept.list settled.result.reclaimed.list settled.ensures c.are_tables.ensures.blocks b (sym (ap (λ l. among l b) c.as_slice.ensures) ∙ i)

pub take_out-requires-clause-apart : goal.take_out-requires-clause-apart
take_out-requires-clause-apart c = λ a b out i.
    let settled = c.settled-settled in
    gone_apart c.args.tables.now settled.new.tables c.args.self settled.result.kept.list settled.result.reclaimed.list settled.ensures a b (sym (ap (λ l. among l a) c.as_slice.ensures) ∙ out) (sym (ap (λ l. among l b) c.as_slice.ensures) ∙ i)

pub remember_anew-requires : goal.remember_anew-requires
remember_anew-requires c = record {
  room = room_for_all c.args.tables.now c.settled-settled.new.tables c.take_out.new.tables c.as_slice.result.now c.settled-settled.ensures.tables c.requires.collects.cards c.are_tables.ensures.blocks c.take_out.ensures.table c.take_out.ensures.blocks c.take_out.ensures.others.2;
}

pub returns-clause-collects : goal.returns-clause-collects
returns-clause-collects c =
    let taken = c.take_out.ensures in
    let anew = c.remember_anew.ensures in
    reclaimed_collects c.args.tables.now c.settled-settled.new.tables c.take_out.new.tables c.as_slice.result.now c.settled-settled.ensures.tables c.requires.collects.cards c.are_tables.ensures.blocks taken.table taken.blocks taken.others.2
    c.remember_anew.new.tables taken.assocs taken.room anew.same anew.cards anew.room
