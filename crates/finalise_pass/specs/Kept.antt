-- Which condemned blocks are kept
use Rattle.std.specs.Prelude.{◌≡◌, ◌≢◌, ◌⊎◌, ◌<◌, ℕ, Bool, not, List, Some, filter, slice_get, IsTrue, IsFalse}
use Rattle.az_base.specs.declared.block_id.BlockId.{BlockId}
use Rattle.az_base.specs.declared.action.Mode.TheVariants as mode
use Rattle.az_base.specs.Ids.{among}
use Rattle.quantum_space.specs.declared.shade.Shade.TheVariants as shade
use Rattle.quantum_space.specs.Shapes.{Shape, Shades, Has, edges, anchors}
use Rattle.gen_marker.specs.Marking.{Greys, Along, is_white}
use Rattle.zone_model.specs.State.{State}
use Rattle.zone_model.specs.Reach.{Edge, IsHeld, Leads}

-- the graph has an edge from a to b
abbrev pub EdgeIn : Shape → BlockId → BlockId → Type 0
EdgeIn s a b = Has (edges s a) b

-- b stands at the end of a path that begins at an anchor, or at a block that isn't condemned
abbrev pub IsKeptIn : Shape → List BlockId → BlockId → Type 0
IsKeptIn s r b = (a : BlockId) × (Has (anchors s) a ⊎ IsFalse (among r a)) × Leads (EdgeIn s) a b

-- each edge that leads into the condemned blocks from outside leads from a remembered block, or to an anchor
pub record IsWatched (s : Shape) (r : List BlockId) : Type 0 where
  pub edge : (a b : BlockId) → IsFalse (among r a) → IsTrue (among r b) → Has (edges s a) b → Has s.remembered a ⊎ Has (anchors s) b

-- those of the ids that are blocks of the graph
abbrev pub inside : Shape → List BlockId → List BlockId
inside s ids = filter (among s.blocks) ids

-- these are some of the blocks
abbrev pub IsWithin : List BlockId → List BlockId → Type 0
IsWithin ids blocks = (b : BlockId) → IsTrue (among ids b) → Has blocks b

-- the graph tells of a state what settling needs
pub record ShowsState (z : State) (s : Shape) (r : List BlockId) : Type 0 where
  -- it has the condemned blocks
  pub within : IsWithin r s.blocks
  -- its edges are edges of the state
  pub inner : (a b : BlockId) → Has (edges s a) b → Edge z a b
  -- an edge of the state into the condemned blocks is one of its own, or leads to an anchor
  pub outer : (a b : BlockId) → IsTrue (among r b) → Edge z a b → Has (edges s a) b ⊎ Has (anchors s) b
  -- a condemned block that is held is an anchor
  pub held : (a : BlockId) → IsTrue (among r a) → IsHeld z a → Has (anchors s) a
  -- an anchor is held, or a block that isn't condemned refers to it
  pub anchor : (a : BlockId) → Has (anchors s) a → IsHeld z a ⊎ ((c : BlockId) × IsFalse (among r c) × Edge z c a)

-- the block isn't white
abbrev pub is_dark : Shades → BlockId → Bool
is_dark f b = not (is_white (f b))

-- the condemned blocks are white, and all others black
pub record IsApart (s : Shape) (r : List BlockId) (f : Shades) : Type 0 where
  pub white : (b : BlockId) → IsTrue (among r b) → f b ≡ shade.White
  pub black : (b : BlockId) → Has s.blocks b → IsFalse (among r b) → f b ≡ shade.Black

-- what the block refers to turns grey where it is white, unless the block itself is a white one of the graph's
pub record Sows (s : Shape) (a : BlockId) (old new : Shades) : Type 0 where
  pub white : Has s.blocks a → old a ≡ shade.White → (b : BlockId) → new b ≡ old b
  pub outside : ¬ Has s.blocks a → Greys (Along mode.Full s a) old new
  pub dark : old a ≢ shade.White → Greys (Along mode.Full s a) old new

-- other blocks are black, condemned ones white or grey, and those that aren't white are kept
pub record Sound (s : Shape) (r : List BlockId) (f : Shades) : Type 0 where
  pub black : (b : BlockId) → Has s.blocks b → IsFalse (among r b) → f b ≡ shade.Black
  pub unscanned : (b : BlockId) → IsTrue (among r b) → f b ≢ shade.Black
  pub kept : (b : BlockId) → IsTrue (among r b) → f b ≢ shade.White → IsKeptIn s r b

-- what the first n remembered blocks refer to isn't white
pub record IsSown (s : Shape) (r : List BlockId) (n : ℕ) (f : Shades) : Type 0 where
  pub sound : Sound s r f
  pub done : (k : ℕ) (a : BlockId) → k < n → slice_get s.remembered k ≡ Some a → IsFalse (among r a) → (b : BlockId) → IsTrue (among r b) → Has (edges s a) b → f b ≢ shade.White

-- neither is an anchor
pub record Seeded (s : Shape) (r : List BlockId) (f : Shades) : Type 0 where
  pub sound : Sound s r f
  pub remembered : (a : BlockId) → Has s.remembered a → IsFalse (among r a) → (b : BlockId) → IsTrue (among r b) → Has (edges s a) b → f b ≢ shade.White
  pub anchors : (b : BlockId) → IsTrue (among r b) → Has (anchors s) b → f b ≢ shade.White
