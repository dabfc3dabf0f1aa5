use Rattle.std.proofs.Common.{◌≡◌, take}
use Rattle.std.specs.List.{filter}
use Rattle.gen_marker.specs.Marking.{is_left}
use Rattle.gen_marker.proofs.walk.Walk.gather.Given as goal

abbrev pub invariant-loop-n : goal.invariant-loop-n
invariant-loop-n g l = record {
  mode : l.walk.mode ≡ l.initial.walk.mode;
  room : l.walk.room ≡ l.initial.walk.room;
  kept : l.walk.grey ≡ filter (is_left l.initial.walk.mode (g.G.Graph.shape l.graph) (g.G.Graph.shades l.graph)) (take l.n (g.G.Graph.shape l.graph).blocks);
}
