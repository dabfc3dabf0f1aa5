-- What a marked graph and the edges of a state have to do with each other
use Rattle.std.specs.Prelude.{◌≡◌, ◌≢◌, ◌⊎◌, ◌↔◌, IsTrue, IsFalse}
use Rattle.az_base.specs.declared.block_id.BlockId.{BlockId}
use Rattle.az_base.specs.declared.action.Mode.{Mode}
use Rattle.quantum_space.specs.declared.shade.Shade.TheVariants as shade
use Rattle.quantum_space.specs.Shapes.{Shape, Shades, Has, edges}
use Rattle.zone_model.specs.State.{State, Cycle}
use Rattle.zone_model.specs.Reach.{Edge, Anchors}
use Rattle.zone_model.specs.Reach as reach
use Rattle.gen_marker.specs.Marking.{Shut, NoGrey, in_scope}

-- a graph at the end of marking, beside all edges of a state and the blocks from which it is reached
pub record Marked (m : Mode) (s : Shape) (f : Shades) (E : BlockId → BlockId → Type 0) (First : BlockId → Type 0) : Type 0 where
  pub shut : Shut m s f
  pub no_grey : NoGrey s.blocks f
  -- a first block that the collection may take isn't white
  pub first : (a : BlockId) → First a → Has s.blocks a → IsTrue (in_scope m s a) → f a ≢ shade.White
  -- the graph has the edges between its blocks
  pub inner : (a b : BlockId) → Has s.blocks a → Has s.blocks b → E a b → Has (edges s a) b
  -- what a block that isn't one of the graph's refers to isn't white: it is an anchor, or was enlivened
  pub outer : (a b : BlockId) → ¬ Has s.blocks a → Has s.blocks b → IsTrue (in_scope m s b) → E a b → f b ≢ shade.White
  -- nor is what an old white block refers to: the old one was remembered, or the young one enlivened as it was stored
  pub crossing : (a b : BlockId) → Has s.blocks a → IsFalse (in_scope m s a) → Has s.blocks b → IsTrue (in_scope m s b) → E a b → f a ≡ shade.White → f b ≢ shade.White

-- a store: the blocks and their ages stay, and each edge was there, or leads to b
pub record Stored (s t : Shape) (b : BlockId) : Type 0 where
  pub blocks : t.blocks ≡ s.blocks
  pub young : (x : BlockId) → t.young x ≡ s.young x
  pub edge : (x y : BlockId) → Has (edges t x) y → Has (edges s x) y ⊎ (y ≡ b)

-- P holds of each block that isn't white
abbrev pub OfDark : Shape → Shades → (BlockId → Type 0) → Type 0
OfDark s f P = (b : BlockId) → Has s.blocks b → f b ≢ shade.White → P b

-- P holds of the end of an edge where it holds of its beginning
abbrev pub GoesOn : Shape → (BlockId → Type 0) → Type 0
GoesOn s P = (a b : BlockId) → Has s.blocks b → P a → Has (edges s a) b → P b

-- a graph at the end of marking, beside a state
abbrev pub MarkedIn : State → Mode → Shape → Shades → Type 0
MarkedIn z m s f = Marked m s f (Edge z) (Anchors m z)

-- the graph has the blocks of an open cycle's start, and their ages
pub record ShowsCycle (z : State) (c : Cycle) (s : Shape) : Type 0 where
  pub start : (b : BlockId) → IsTrue (c.start b) ↔ Has s.blocks b
  pub scope : (b : BlockId) → Has s.blocks b → reach.in_scope c.mode z b ≡ in_scope c.mode s b
