use Rattle.std.proofs.Common.{◌≡◌, ◌-◌}
use Rattle.block_space.specs.Marking.{ends_from, len_in, unmarked}
use Rattle.space_graph.specs.Graphs.{edges_of, rest_of}
use Rattle.space_graph.proofs.graph.view.SpaceGraphGraph.edge_from.Given as goal

abbrev pub invariant-loop-i : goal.invariant-loop-i
invariant-loop-i l = record {
  left : edges_of (rest_of l.fn.self) l.fn.id l.place ≡ ends_from (unmarked l.fn.self.space) l.spot l.i (len_in l.fn.self.space l.spot - l.i);
}
