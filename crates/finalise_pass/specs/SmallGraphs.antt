-- Graphs of numbered blocks in memory, for tests
use Rattle.std.specs.Prelude.{ℕ, zero, suc, ◌&&◌, ◌==◌, nat_lt, nat_le, Bool, List, [], ◌∷◌, if◌then◌else◌, slice_get, unwrap_or, drop, false, Option, None}
use Rattle.az_base.specs.declared.action.Action.{Action}
use Rattle.finalise_pass.specs.Finalisers.{Finalisers}
use Rattle.az_base.specs.declared.block_id.BlockId.{BlockId}
use Rattle.az_base.specs.Ids.{id_of}
use Rattle.quantum_space.specs.declared.shade.Shade.{Shade}
use Rattle.quantum_space.specs.declared.shade.Shade.TheVariants as shade
use Rattle.quantum_space.specs.Shapes.{Shape, Shades}

-- k blocks of a thread, from a serial on
abbrev pub numbered : ℕ → ℕ → ℕ → List BlockId
numbered t a zero = []
numbered t a (suc k) = id_of t a ∷ numbered t (suc a) k

-- the edges of the block with this serial
abbrev pub row_at : List (List BlockId) → ℕ → List BlockId
row_at rows i = unwrap_or (slice_get rows i) []

-- the first n blocks of a thread; those from a serial on are young; all are remembered, or these
abbrev pub small_shape : ℕ → ℕ → List (List BlockId) → ℕ → List BlockId → Bool → List BlockId → Shape
small_shape t n rows young anchors all remembered = record {
  blocks = numbered t 0 n;
  anchors_from = λ place. drop place anchors;
  remembered = if all then numbered t 0 n else remembered;
  edges_from = λ id place. if (id.thread == t) && nat_lt id.serial n then drop place (row_at rows id.serial) else [];
  young = λ id. nat_le young id.serial;
}

-- each has its shade, and any other block is white
abbrev pub small_shades : ℕ → List Shade → Shades
small_shades t shades id = if id.thread == t then unwrap_or (slice_get shades id.serial) shade.White else shade.White

-- finalisers of a thread's blocks: roots, the actions of each block, words that any of them holds, and which are done
abbrev pub small_finals : ℕ → List (Option BlockId) → List (List Action) → List BlockId → List Bool → Finalisers
small_finals t roots actions words done = record {
  roots = λ q. unwrap_or (slice_get roots q) None;
  actions = λ id. if id.thread == t then unwrap_or (slice_get actions id.serial) [] else [];
  strong = λ id at. slice_get words at;
  done = λ id. (id.thread == t) && unwrap_or (slice_get done id.serial) false;
}
