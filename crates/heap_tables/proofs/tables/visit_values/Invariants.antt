use Rattle.std.proofs.Common.{◌≡◌, ◌-◌, drop, length, map}
use Rattle.assoc_refs.specs.Table.{pairs_of}
use Rattle.quantum_space.specs.Shapes.{Shades, Stack, VisitsAll}
use Rattle.block_table.specs.Marking.{graph_in, marks_in}
use Rattle.block_table.specs.Places.{somes}
use Rattle.block_table.specs.Table.{Table}
use Rattle.heap_tables.specs.Graphs.{value_of}
use Rattle.heap_tables.proofs.tables.visit_values.Given as goal

abbrev pub invariant-loop-found : goal.invariant-loop-found
invariant-loop-found l =
    let values = map value_of (pairs_of l.assocs.pairs l.id) in
    record {
      rest : l.blocks ≡ (let t : Table = record l.fn.blocks { shades = l.blocks.shades } in t);
      on : (after : Shades) (onto : Stack) → VisitsAll l.mode (graph_in l.fn.blocks) (somes (drop l.n values)) (marks_in l.blocks) l.stack after onto
          → VisitsAll l.mode (graph_in l.fn.blocks) (somes values) (marks_in l.fn.blocks) l.fn.stack after onto;
    }

abbrev pub decreases-loop-found : goal.decreases-loop-found
decreases-loop-found l = length (pairs_of l.assocs.pairs l.id) - l.n
