use Rattle.std.proofs.Common.{[], ap, ◌∙◌, arith}
use Rattle.block_space.specs.Spaces.{with_spare}
use Rattle.space_graph.specs.Graphs.{Graph'}
use Rattle.space_graph.proofs.Comings.{spare_alike}
use Rattle.block_table.specs.Lying.{lying_table}
use Rattle.block_table.specs.Table.{Table}
use Rattle.block_space.specs.Marking.{unmarked}
use Rattle.block_table.proofs.Alike.{alike_lying, alike_table}
use Rattle.block_table.proofs.Lying.{long_rows}
use Rattle.block_table.proofs.table.BlockTable.unreserve.Goals as goal

pub invariant_of-self : goal.invariant_of-self
invariant_of-self c =
    let g = c.self.inside.graph in
    rw c.unreserve.ensures (alike_lying g (with_spare g.space []) c.self.inside.kept.entries _ _ _ (spare_alike g.space []) (omega arith)
    (let f = c.self.invariant.kept.few in let l = long_rows (unmarked g.space) g.space c.self.inside.kept.entries g.rows in omega (arith, f, l)) (let h = c.self.invariant.kept.sum in omega (arith, h)) c.self.invariant)

pub returns : goal.returns
returns c =
    let g = c.self.inside.graph in
    let ks = c.self.inside.kept.entries in
    ap (λ (y : Graph'). lying_table y ks) c.unreserve.ensures ∙ alike_table g (with_spare g.space []) ks (spare_alike g.space []) ∙ ap (λ (t : Table). let y : Table = record t { room = [] } in y) c.self.view_is
