use Rattle.std.proofs.Common.{◌∙◌, sym, ap, subst, length}
use Rattle.quantum_space.specs.Shapes.{Once}
use Rattle.block_space.specs.Marking.{unmarked}
use Rattle.block_table.specs.Lying.{entries_of}
use Rattle.block_table.proofs.Lying.{keys_rows}
use Rattle.block_table.proofs.Tabled.{tabled}
use Rattle.space_graph.proofs.Positions.{key_count}
use Rattle.block_table.proofs.Told.{order_is}
use Rattle.block_table.proofs.table.BlockTable.len.Goals as goal

pub returns-clause-value : goal.returns-clause-value
returns-clause-value c = c.len.ensures ∙ sym (key_count c.self.inside.graph.rows) ∙ ap length (sym (order_is _ c.self.inside.graph c.self.inside.kept.entries c.self.view_is))

pub returns-clause-table : goal.returns-clause-table
returns-clause-table c =
    let g = c.self.inside.graph in
    tabled _ (entries_of g c.self.inside.kept.entries) _ _ _ _ c.self.view_is (subst Once (sym (keys_rows (unmarked g.space) g.space c.self.inside.kept.entries g.rows)) c.is_graph.ensures.once) c.self.invariant.kept
