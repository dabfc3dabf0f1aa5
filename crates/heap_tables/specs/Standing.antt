-- Which states tables stand for
use Rattle.std.specs.Prelude.{◌≡◌, ◌<◌, ◌⊎◌, ◌-◌, ℕ, min, Option, None, IsTrue, get_or, option_map, option_and_then}
use Rattle.std.specs.Option.{option_map_or}
use Rattle.std.specs.FinMap.{get}
use Rattle.az_base.specs.declared.block_id.BlockId.{BlockId}
use Rattle.block_table.specs.Holds.{Holds, times}
use Rattle.block_table.specs.Stored.{HeapBlock}
use Rattle.block_table.specs.Table.{IsTable}
use Rattle.cycle_laws.specs.Shown.{FromUnescaped}
use Rattle.retain_table.specs.Counted.{IsOrder, IsPositive}
use Rattle.zone_model.specs.Reach.{IsHeld, InRegister}
use Rattle.zone_model.specs.State.{State, Block, is_escaped}
use Rattle.heap_tables.specs.declared.tables.Tables.{Tables}

-- what is kept of a block, where it has escaped and there were so many Reclaims
abbrev pub kept_of : ℕ → Block → Option HeapBlock
kept_of reclaims b = option_map (λ since. record { layout = b.layout; words = b.words; actions = b.actions; finalised = b.finalised; age = min (reclaims - since) 3 }) b.since

-- the same of what a state has at an id
abbrev pub escaped_view : ℕ → Option Block → Option HeapBlock
escaped_view reclaims o = option_and_then (kept_of reclaims) o

-- how often the thread holds the block
abbrev pub held : Tables → ℕ → BlockId → ℕ
held t u id = option_map_or (λ (m : Holds). times m u) (get t.blocks.holds id) 0

-- what holds of all tables, whatever they stand for
pub record AreTables (t : Tables) : Type 0 where
  pub blocks : IsTable t.blocks
  pub counted : IsOrder t.counts.counts t.counts.order
  pub positive : IsPositive t.counts.counts

-- the escaped blocks, the roots, the counts and the associations are those of the state
pub record TablesStand (t : Tables) (z : State) : Type 0 where
  pub blocks : (q : BlockId) → get t.blocks.blocks q ≡ escaped_view z.reclaims (get z.blocks q)
  pub roots : (g : ℕ) → get_or t.roots g None ≡ z.roots g
  pub counts : z.counts ≡ t.counts.counts
  pub assocs : z.assocs ≡ t.assocs.pairs

-- what a thread holds is held, or an unescaped block refers to it; and an escaped block that stands in a register, or to which an unescaped one refers, is held by a thread
pub record HoldsTell (t : Tables) (z : State) : Type 0 where
  pub holds : (u : ℕ) (b : BlockId) → 0 < held t u b → IsHeld z b ⊎ FromUnescaped z b
  pub register : (b : BlockId) → InRegister z b → IsTrue (is_escaped z b) → (u : ℕ) × (0 < held t u b)
  pub below : (b : BlockId) → FromUnescaped z b → IsTrue (is_escaped z b) → (u : ℕ) × (0 < held t u b)
