use Rattle.std.proofs.Common.{◌≡◌, ◌-◌, length}
use Rattle.quantum_space.specs.Shapes.{OnlyShades}
use Rattle.gen_marker.specs.Marking.{Tracks, Shut, Spreads, blacks}
use Rattle.gen_marker.proofs.walk.Walk.scan_all.Given as goal

abbrev pub invariant-loop : goal.invariant-loop
invariant-loop g l = record {
  tracks : Tracks l.self (g.G.Graph.shape l.graph).blocks (g.G.Graph.shades l.graph);
  mode : l.self.mode ≡ l.fn.self.mode;
  room : l.self.room ≡ l.fn.self.room;
  shut : Shut l.self.mode (g.G.Graph.shape l.graph) (g.G.Graph.shades l.graph);
  spreads : Spreads l.fn.self.mode (g.G.Graph.shape l.fn.graph) (g.G.Graph.shades l.fn.graph) (g.G.Graph.shades l.graph);
  only : OnlyShades _ g.G.Graph.Rest g.G.Graph.shape g.G.Graph.rest l.fn.graph l.graph;
}

abbrev pub decreases-loop : goal.decreases-loop
decreases-loop g l = length (g.G.Graph.shape l.graph).blocks - blacks (g.G.Graph.shape l.graph).blocks (g.G.Graph.shades l.graph)
