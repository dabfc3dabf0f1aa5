use Rattle.std.proofs.Common.{◌≡◌, ◌-◌, ◌≤◌}
use Rattle.block_space.specs.Marking.{len_in}
use Rattle.space_graph.specs.Graphs.{Follows, rest_of}
use Rattle.space_graph.proofs.graph.SpaceGraph.follow_words.Given as goal

abbrev pub invariant-loop-at : goal.invariant-loop-at
invariant-loop-at l = record {
  follows : Follows l.mode l.spot 0 l.from l.fn.self l.fn.stack l.self l.stack;
  rest : rest_of l.self ≡ rest_of l.fn.self;
  within : l.from ≤ len_in l.fn.self.space l.spot;
}

abbrev pub decreases-loop-at : goal.decreases-loop-at
decreases-loop-at l = len_in l.self.space l.spot - l.from
