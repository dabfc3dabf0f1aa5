use Rattle.std.proofs.Common.{◌≡◌, ◌<◌, ℕ, slice_get, Some}
use Rattle.az_base.specs.declared.block_id.BlockId.{BlockId}
use Rattle.quantum_space.specs.Shapes.{Has}
use Rattle.space_graph.specs.Graphs.{begun, rest_of, shades_of}
use Rattle.space_graph.proofs.graph.SpaceGraph.shade_each.Given as goal

abbrev pub invariant-loop-n : goal.invariant-loop-n
invariant-loop-n l = record {
  each : (k : ℕ) (b : BlockId) → k < l.n → slice_get (begun l.fn.self) k ≡ Some b → shades_of l.self b ≡ l.fn.s;
  outside : (b : BlockId) → ¬ Has (begun l.fn.self) b → shades_of l.self b ≡ shades_of l.fn.self b;
  rest : rest_of l.self ≡ rest_of l.fn.self;
}
