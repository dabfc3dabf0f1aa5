use Rattle.std.proofs.Common.{length, map}
use Rattle.gen_marker.specs.Marking.{Shut, Tracks}
use Rattle.finalise_pass.specs.SmallGraphs.{small_shape, small_shades}
use Rattle.finalise_pass.proofs.tests.cycle.Given as goal

abbrev pub invariant-loop-n : goal.invariant-loop-n
invariant-loop-n g l = record {
  tracks : Tracks l.marker (small_shape l.graph.thread (length l.graph.shades.items) (map (λ e. e.items) l.graph.edges.items) l.graph.young_from l.graph.anchors.items l.graph.all_remembered l.graph.some_remembered.items).blocks (small_shades l.graph.thread l.graph.shades.items);
  shut : Shut l.marker.mode (small_shape l.graph.thread (length l.graph.shades.items) (map (λ e. e.items) l.graph.edges.items) l.graph.young_from l.graph.anchors.items l.graph.all_remembered l.graph.some_remembered.items) (small_shades l.graph.thread l.graph.shades.items);
}
