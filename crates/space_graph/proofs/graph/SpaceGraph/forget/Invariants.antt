use Rattle.space_graph.specs.Graphs.{KnowsLess, KnowsNothing}
use Rattle.space_graph.proofs.graph.SpaceGraph.forget.Given as goal

abbrev pub invariant-loop-i : goal.invariant-loop-i
invariant-loop-i l = record {
  less : KnowsLess l.fn.self l.self;
  none : KnowsNothing l.self.space l.spot l.i;
}
