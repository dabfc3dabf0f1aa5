use Rattle.std.proofs.Common.{refl, is_some}
use Rattle.block_table.specs.Marking.{graph_in}
use Rattle.block_table.proofs.Visits.{visits_alike}
use Rattle.heap_tables.specs.Graphs.{graph_of, shades_of}
use Rattle.heap_tables.proofs.graph.TablesGraph.visit.Goals as goal

pub returns-clause-visits : goal.returns-clause-visits
returns-clause-visits c =
    let t = c.args.self.now in
    visits_alike c.args.mode (graph_in t.blocks) (graph_of t) c.args.id (is_some c.visit.result) (shades_of t) _ refl refl c.visit.ensures.visits
