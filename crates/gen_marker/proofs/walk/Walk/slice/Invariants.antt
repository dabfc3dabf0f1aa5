use Rattle.std.proofs.Common.{◌≡◌, ◌+◌}
use Rattle.quantum_space.specs.Shapes.{OnlyShades}
use Rattle.gen_marker.specs.Marking.{Tracks, Shut, Spreads, blacks}
use Rattle.gen_marker.proofs.walk.Walk.slice.Given as goal

abbrev pub invariant-loop-n : goal.invariant-loop-n
invariant-loop-n g l = record {
  tracks : Tracks l.self (g.G.Graph.shape l.graph).blocks (g.G.Graph.shades l.graph);
  mode : l.self.mode ≡ l.fn.self.mode;
  shut : Shut l.self.mode (g.G.Graph.shape l.graph) (g.G.Graph.shades l.graph);
  spreads : Spreads l.fn.self.mode (g.G.Graph.shape l.fn.graph) (g.G.Graph.shades l.fn.graph) (g.G.Graph.shades l.graph);
  ticks : l.steps + blacks (g.G.Graph.shape l.fn.graph).blocks (g.G.Graph.shades l.fn.graph) ≡ l.fn.steps + blacks (g.G.Graph.shape l.fn.graph).blocks (g.G.Graph.shades l.graph);
  so_far : l.steps ≡ l.fn.steps + l.n;
  only : OnlyShades _ g.G.Graph.Rest g.G.Graph.shape g.G.Graph.rest l.fn.graph l.graph;
}
