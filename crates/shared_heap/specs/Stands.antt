-- Which states a heap stands for
use Rattle.std.specs.Prelude.{◌≡◌, ◌≢◌, ℕ, Option, None, Some, IsTrue}
use Rattle.std.specs.FinMap.{get}
use Rattle.az_base.specs.declared.block_id.BlockId.{BlockId}
use Rattle.az_base.specs.Ids.{among}
use Rattle.quantum_space.specs.declared.shade.Shade.TheVariants as shade
use Rattle.zone_model.specs.State.{State, Cycle, is_escaped}
use Rattle.zone_model.specs.Collection.{WasAnchored}
use Rattle.zone_model.specs.Reach.{Edge}
use Rattle.heap_cycle.specs.Collector.{Collecting, shade_in}
use Rattle.heap_tables.specs.Standing.{escaped_view}
use Rattle.shared_heap.specs.Shared.{Shared, root_in}

-- a heap's cycle is the state's; and until it is condemned, each block of the start that isn't white was anchored at some moment since it began
pub record StandsCycle (g : Collecting) (c : Cycle) : Type 0 where
  pub owner : c.owner ≡ g.owner
  pub mode : c.mode ≡ g.mode
  pub start : (b : BlockId) → c.start b ≡ among g.start b
  pub condemned : c.condemned ≡ g.condemned
  pub dark : g.condemned ≡ None → (b : BlockId) → IsTrue (among g.start b) → shade_in g b ≢ shade.White → WasAnchored c b

-- both have an open cycle, and it is the same, or neither has
abbrev pub SameCycle : Option Collecting → Option Cycle → Type 0
SameCycle None None = Unit {0}
SameCycle (Some g) (Some c) = StandsCycle g c
SameCycle _ _ = ⊥

-- the escaped blocks, the roots, the options, the tables and the cycle are those of the state
pub record Stands (h : Shared) (z : State) : Type 0 where
  pub options : z.options ≡ h.options
  pub blocks : (q : BlockId) → get h.blocks q ≡ escaped_view z.reclaims (get z.blocks q)
  pub roots : (g : ℕ) → root_in h g ≡ z.roots g
  pub counts : z.counts ≡ h.counts
  pub assocs : z.assocs ≡ h.assocs
  pub weak : z.weak ≡ h.weak
  pub cycle : SameCycle h.gc.cycle z.cycle

-- what has escaped leads to what has escaped alone: so much of a sound state the calls rest on
abbrev pub EscapedClosed : State → Type 0
EscapedClosed z = (a b : BlockId) → IsTrue (is_escaped z a) → Edge z a b → IsTrue (is_escaped z b)
