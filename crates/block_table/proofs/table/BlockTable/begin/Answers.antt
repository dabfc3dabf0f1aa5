use Rattle.std.proofs.Common.{◌∙◌, length, refl, sym, ap, subst}
use Rattle.quantum_space.specs.Shapes.{Once}
use Rattle.block_space.specs.Marking.{unmarked}
use Rattle.space_graph.specs.Graphs.{Graph'}
use Rattle.space_graph.proofs.Positions.{key_count}
use Rattle.block_table.specs.Lying.{entries_of, lying_table}
use Rattle.block_table.specs.Table.{Table}
use Rattle.block_table.proofs.Lying.{keys_rows}
use Rattle.block_table.proofs.Begun.{begun_lying, begun_kept}
use Rattle.block_table.proofs.Tabled.{tabled}
use Rattle.block_table.proofs.Told.{order_is}
use Rattle.block_table.proofs.table.BlockTable.begin.Goals as goal

pub invariant_of-self : goal.invariant_of-self
invariant_of-self c = rw c.begin.ensures (begun_lying c.self.inside.graph c.self.inside.kept.entries _ _ c.self.invariant)

pub returns-clause-value : goal.returns-clause-value
returns-clause-value c =
    let g = c.self.inside.graph in
    let ks = c.self.inside.kept.entries in
    ap (λ (y : Graph'). lying_table y ks) c.begin.ensures ∙ ap (λ (t : Table). let y : Table = record t { began = length g.rows } in y) c.self.view_is
    ∙ ap (λ n. let y : Table = record c.args.self.now { began = n } in y) (sym (key_count g.rows) ∙ ap length (sym (order_is _ g ks c.self.view_is)))

pub returns-clause-table : goal.returns-clause-table
returns-clause-table c =
    let g = c.self.inside.graph in
    let ks = c.self.inside.kept.entries in
    rw c.begin.ensures (tabled _ (entries_of g ks) _ _ _ _ refl (subst Once (sym (keys_rows (unmarked g.space) g.space ks g.rows)) c.is_graph.ensures.once) (begun_kept g ks _ _ c.self.invariant))
