use Rattle.std.proofs.Common.{◌⊎◌, IsTrue, length}
use Rattle.az_base.specs.declared.block_id.BlockId.{BlockId}
use Rattle.quantum_space.specs.Shapes.{Has, edges}
use Rattle.heap_tables.specs.Graphs.{graph_of}
use Rattle.heap_cycle.specs.Collects.{is_old_at}
use Rattle.heap_cycle.proofs.reclaiming.wants_card.Given as goal

-- the ends of the edges that were followed are old
abbrev pub invariant-loop-found : goal.invariant-loop-found
invariant-loop-found l = record {
  old : (b : BlockId) → Has (edges (graph_of l.tables) l.id) b → IsTrue (is_old_at l.tables.blocks.blocks b) ⊎ Has ((graph_of l.tables).edges_from l.id l.place) b;
  left : (b : BlockId) → Has ((graph_of l.tables).edges_from l.id l.place) b → Has (edges (graph_of l.tables) l.id) b;
}

abbrev pub decreases-loop-found : goal.decreases-loop-found
decreases-loop-found l = length ((graph_of l.tables).edges_from l.id l.place)
