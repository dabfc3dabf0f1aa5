use Rattle.std.proofs.Common.{◌≡◌, ◌++◌, List, length}
use Rattle.az_base.specs.declared.block_id.BlockId.{BlockId}
use Rattle.space_graph.specs.Graphs.{edges_of, rest_of}
use Rattle.space_graph.proofs.graph.view.SpaceGraphGraph.edge.Given as goal

abbrev pub invariant-loop-passed : goal.invariant-loop-passed
invariant-loop-passed l = record {
  front : List BlockId;
  split : edges_of (rest_of l.fn.self) l.id 0 ≡ front ++ edges_of (rest_of l.fn.self) l.id l.place;
  count : length front ≡ l.passed;
}
