use Rattle.std.proofs.Common.{refl, sym, subst}
use Rattle.quantum_space.specs.Shapes.{Once}
use Rattle.block_space.specs.Marking.{unmarked}
use Rattle.block_table.specs.Lying.{entries_of}
use Rattle.block_table.specs.Table.{AreApart, Table}
use Rattle.block_table.proofs.Clearing.{removed_are}
use Rattle.block_table.proofs.Lying.{keys_rows}
use Rattle.block_table.proofs.Tabled.{tabled}
use Rattle.block_table.proofs.table.BlockTable.remove_all.Goals as goal

pub take_out_all-requires-clause-forgotten : goal.take_out_all-requires-clause-forgotten
take_out_all-requires-clause-forgotten c = c.forget.ensures.forgotten c.self.inside.kept.entries (subst (λ (t : Table). AreApart t.blocks c.args.ids.now) (sym c.self.view_is) c.requires.apart)

pub take_out_all-requires-clause-lying : goal.take_out_all-requires-clause-lying
take_out_all-requires-clause-lying c = c.forget.ensures.lying c.self.inside.kept.entries _ _ c.self.invariant

pub returns-clause-removed : goal.returns-clause-removed
returns-clause-removed c = removed_are c.args.self.now c.self.inside.graph c.forget.new.graph c.take_out_all.new.graph c.self.inside.kept.entries c.take_out_all.new.kept.entries c.args.ids.now c.self.view_is (c.forget.ensures.entries c.self.inside.kept.entries) c.forget.ensures.spare c.take_out_all.ensures.less c.take_out_all.ensures.all

pub returns-clause-table : goal.returns-clause-table
returns-clause-table c =
    let g = c.take_out_all.new.graph in
    let ks = c.take_out_all.new.kept.entries in
    tabled _ (entries_of g ks) _ _ _ _ refl (subst Once (sym (keys_rows (unmarked g.space) g.space ks g.rows)) c.is_graph.ensures.once) c.take_out_all.ensures.lying.kept
