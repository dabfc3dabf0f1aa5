use Rattle.heap_cycle.proofs.Alike.{empty_collects}
use Rattle.std.proofs.Common.{◌≡◌, ◌∙◌, ap, refl, arith, ℕ, cond}
use Rattle.az_base.specs.Ids.{id_cmp}
use Rattle.block_layouts.specs.Layouts.{quanta, len_of}
use Rattle.zone_model.proofs.MapLaws.{total-empty}
use Rattle.block_table.specs.Stored.{HeapBlock}
use Rattle.block_table.specs.Table.{Table, used_by}
use Rattle.heap_cycle.specs.Waiting.{unfinalised_by, waits}
use Rattle.shared_heap.proofs.Retained.{below_empty}
use Rattle.shared_heap.proofs.Standing.{opening_stands}
use Rattle.shared_heap.proofs.heap.Heap.new.Goals as goal

pub invariant_of-result : goal.invariant_of-result
invariant_of-result c =
    let tables = c.in_ok-tables.tables in
    let made = c.in_ok-tables.ensures in
    let none : used_by tables.blocks.blocks ≡ 0 = ap (λ (t : Table). used_by t.blocks) made.blocks ∙ total-empty id_cmp (λ id (k : HeapBlock). quanta (len_of k.layout)) in
    record {
      fits = omega arith;
      unfinalised = ap (λ (t : Table). unfinalised_by t.blocks) made.blocks ∙ total-empty id_cmp (λ id (k : HeapBlock). cond {A = ℕ} (waits k) 1 0);
      some_wait = omega arith;
      collects = empty_collects tables made.blocks made.assocs.0 made.cards;
      counts = below_empty tables.counts.counts c.args.options.counts made.counts.0;
    }

pub returns-clause-value : goal.returns-clause-value
returns-clause-value c = let made = c.in_ok-tables.ensures in rw (made.blocks, made.roots, made.counts.0, made.counts.1, made.assocs.0, made.assocs.1, made.cards, c.new-2.ensures.shown, c.new-2.ensures.ready) refl

pub returns-clause-stands : goal.returns-clause-stands
returns-clause-stands c = let made = c.in_ok-tables.ensures in rw (made.blocks, made.roots, made.counts.0, made.counts.1, made.assocs.0, made.assocs.1, made.cards, c.new-2.ensures.shown, c.new-2.ensures.ready) (opening_stands c.args.options)
