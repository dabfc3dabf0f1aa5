use Rattle.std.proofs.Common.{◌≡◌, ◌≢◌, ◌<◌, ◌⊎◌, ℕ, slice_get, Some}
use Rattle.az_base.specs.declared.block_id.BlockId.{BlockId}
use Rattle.quantum_space.specs.Shapes.{OnlyShades, Has}
use Rattle.quantum_space.specs.declared.shade.Shade.TheVariants as shade
use Rattle.gen_marker.specs.Marking.{Tracks, Listed}
use Rattle.gen_marker.proofs.walk.Walk.grey_remembered.Given as goal

abbrev pub invariant-loop-n : goal.invariant-loop-n
invariant-loop-n g l = record {
  tracks : Tracks l.self (g.G.Graph.shape l.graph).blocks (g.G.Graph.shades l.graph);
  mode : l.self.mode ≡ l.fn.self.mode;
  only : OnlyShades _ g.G.Graph.Rest g.G.Graph.shape g.G.Graph.rest l.fn.graph l.graph;
  same : (b : BlockId) → (g.G.Graph.shades l.graph b ≡ g.G.Graph.shades l.fn.graph b) ⊎ (Listed (g.G.Graph.shape l.fn.graph) (g.G.Graph.shape l.fn.graph).remembered b × (g.G.Graph.shades l.fn.graph b ≡ shade.White) × (g.G.Graph.shades l.graph b ≡ shade.Grey));
  done : (k : ℕ) (b : BlockId) → k < l.n → slice_get (g.G.Graph.shape l.fn.graph).remembered k ≡ Some b → Has (g.G.Graph.shape l.fn.graph).blocks b → g.G.Graph.shades l.graph b ≢ shade.White;
}
