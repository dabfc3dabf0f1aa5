use Rattle.std.proofs.Common.{◌≡◌, List}
use Rattle.az_base.specs.declared.action.Mode.TheVariants as mode
use Rattle.az_base.specs.declared.block_id.BlockId.{BlockId}
use Rattle.quantum_space.specs.Shapes.{OnlyShades}
use Rattle.gen_marker.specs.Marking.{Tracks}
use Rattle.finalise_pass.specs.Kept.{IsApart, IsSown, IsWithin}
use Rattle.finalise_pass.proofs.settling.sow_remembered.Given as goal

abbrev pub invariant-loop-n : goal.invariant-loop-n
invariant-loop-n g l = record {
  tracks : Tracks l.walk (g.G.Graph.shape l.graph).blocks (g.G.Graph.shades l.graph);
  mode : l.walk.mode ≡ mode.Full;
  room : l.walk.room ≡ l.fn.walk.room;
  sown : (r : List BlockId) → IsWithin r (g.G.Graph.shape l.fn.graph).blocks → IsApart (g.G.Graph.shape l.fn.graph) r (g.G.Graph.shades l.fn.graph) → IsSown (g.G.Graph.shape l.fn.graph) r l.n (g.G.Graph.shades l.graph);
  only : OnlyShades _ g.G.Graph.Rest g.G.Graph.shape g.G.Graph.rest l.fn.graph l.graph;
}
