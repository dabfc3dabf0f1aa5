-- What a local call leaves alone
use Rattle.std.specs.Prelude.{◌≡◌, ℕ, List, ◌++◌, Option, None, Some, is_some, option_and_then, if◌then◌else◌, ◌⊎◌, IsTrue}
use Rattle.std.specs.FinMap.{get}
use Rattle.az_base.specs.declared.block_id.BlockId.{BlockId}
use Rattle.zone_model.specs.State.{State, Block, Cycle, Moment}
use Rattle.zone_model.specs.Reach.{WordEdge}
use Rattle.zone_model.specs.Part.{Part, is_in}

-- the block, where it has escaped
abbrev pub escaped_only : Option Block → Option Block
escaped_only o = option_and_then (λ b. if is_some b.since then Some b else None) o

-- the same cycle, which may have seen more
abbrev pub SeesMore : Option Cycle → Option Cycle → Type 0
SeesMore None None = Unit {0}
SeesMore (Some c) (Some d) = (more : List Moment) × (d ≡ record c { moments = more ++ c.moments })
SeesMore _ _ = ⊥

-- the two states are alike in all that isn't one thread's own, but for what the open cycle has seen
pub record SameShared (z a : State) : Type 0 where
  pub options : a.options ≡ z.options
  pub blocks : (q : BlockId) → escaped_only (get a.blocks q) ≡ escaped_only (get z.blocks q)
  pub roots : a.roots ≡ z.roots
  pub counts : a.counts ≡ z.counts
  pub weak : a.weak ≡ z.weak
  pub assocs : a.assocs ≡ z.assocs
  pub reclaims : a.reclaims ≡ z.reclaims
  pub cycle : SeesMore z.cycle a.cycle

-- the part holds the block: in a register, or in a word of a block
abbrev pub HoldsRef : Part → BlockId → Type 0
HoldsRef p q = ((r : ℕ) × (p.registers r ≡ Some q)) ⊎ ((a : BlockId) × WordEdge p.blocks a q)

-- what the part holds afterwards it held before, or it is a block of it
abbrev pub GainsNone : Part → Part → Type 0
GainsNone p after = (q : BlockId) → HoldsRef after q → HoldsRef p q ⊎ IsTrue (is_in after q)
