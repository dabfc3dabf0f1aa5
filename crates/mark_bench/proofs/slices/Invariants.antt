use Rattle.gen_marker.specs.Marking.{Shut, Tracks}
use Rattle.mark_bench.proofs.slices.Given as goal

abbrev pub invariant-loop : goal.invariant-loop
invariant-loop g l = record {
  tracks : Tracks l.marker (g.G.Graph.shape l.graph).blocks (g.G.Graph.shades l.graph);
  shut : Shut l.marker.mode (g.G.Graph.shape l.graph) (g.G.Graph.shades l.graph);
}
