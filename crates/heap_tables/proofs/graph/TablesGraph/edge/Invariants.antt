use Rattle.std.proofs.Common.{◌≡◌, drop}
use Rattle.block_table.specs.Places.{somes}
use Rattle.heap_tables.specs.Graphs.{edge_places}
use Rattle.heap_tables.proofs.graph.TablesGraph.edge.Given as goal

abbrev pub invariant-loop : goal.invariant-loop
invariant-loop l =
    let places = edge_places l.self l.id in
    drop l.counter (somes places) ≡ somes (drop l.place places)
