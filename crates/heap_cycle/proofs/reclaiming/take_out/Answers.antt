use Rattle.std.proofs.Common.{◌∙◌, ap, refl}
use Rattle.heap_tables.specs.declared.tables.Tables.{Tables}
use Rattle.block_table.specs.Table.{without}
use Rattle.heap_cycle.proofs.Taken.{all_left, older_left, one_erased}
use Rattle.heap_cycle.proofs.reclaiming.take_out.Goals as goal

pub loop-id-init : goal.loop-id-init
loop-id-init c = record { pairs = all_left c.args.tables.now.assocs.pairs; others = refl }

pub loop-id-preserved : goal.loop-id-preserved
loop-id-preserved c = record {
  pairs = one_erased c.args.tables.now.assocs.pairs c.loop-id.tables.assocs.pairs c.erase.new.self.pairs c.args.gone.now c.loop-id.id-index c.id-item.result c.loop-id-test.true c.id-item.is c.loop-id.invariant.pairs c.erase.ensures.pairs;
  others = ap (λ (t : Tables). let u : Tables = record t { assocs = c.erase.new.self } in u) c.loop-id.invariant.others;
}

pub returns-clause-blocks : goal.returns-clause-blocks
returns-clause-blocks c = λ b. c.age_all.ensures.blocks b
    ∙ older_left c.args.tables.now.blocks.blocks c.remove_all.new.self.blocks c.args.gone.now b (c.remove_all.ensures.removed.blocks ∙ ap (λ (t : Tables). without t.blocks.blocks c.args.gone.now) c.loop-id.invariant.others)
