use Rattle.std.proofs.Common.{◌≡◌, drop}
use Rattle.block_table.specs.Places.{somes}
use Rattle.heap_tables.specs.Graphs.{anchor_places}
use Rattle.heap_tables.proofs.graph.TablesGraph.anchor.Given as goal

abbrev pub invariant-loop : goal.invariant-loop
invariant-loop l =
    let places = anchor_places l.self in
    drop l.counter (somes places) ≡ somes (drop l.place places)
