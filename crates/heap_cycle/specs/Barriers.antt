-- What a call has to tell the collections of a heap before it changes the tables
use Rattle.std.specs.Prelude.{◌≡◌, ◌≢◌, ◌⊎◌, Bool, false, Option, None, Some, List, IsTrue, IsFalse}
use Rattle.std.specs.Option.{option_map_or}
use Rattle.az_base.specs.declared.action.Mode.{Mode}
use Rattle.az_base.specs.declared.block_id.BlockId.{BlockId}
use Rattle.az_base.specs.Ids.{among}
use Rattle.quantum_space.specs.declared.shade.Shade.TheVariants as shade
use Rattle.quantum_space.specs.Shapes.{Has}
use Rattle.heap_tables.specs.Graphs.{graph_of, shades_of}
use Rattle.heap_tables.specs.Unshaded.{unshaded}
use Rattle.heap_tables.specs.declared.tables.Tables.{Tables}
use Rattle.heap_cycle.specs.Collects.{condemned_at, is_old_at, start_of}
use Rattle.write_barrier.specs.declared.effects.Phase as barrier
use Rattle.write_barrier.specs.declared.effects.Phase.TheVariants as seen
use Rattle.heap_cycle.specs.declared.open_cycle.OpenCycle.{OpenCycle}
use Rattle.heap_cycle.specs.declared.open_cycle.Phase.{Phase}
use Rattle.heap_cycle.specs.declared.open_cycle.Phase.TheVariants as phase

-- the open cycle has condemned the block
abbrev pub is_condemned_by : Option OpenCycle → BlockId → Bool
is_condemned_by o b = option_map_or (λ r. among r b) (option_map_or (λ c. condemned_at c.phase) o None) false

-- while a cycle marks the block isn't white, where it is one of the start
abbrev pub IsLive : Tables → Option OpenCycle → BlockId → Type 0
IsLive t o b = (c : OpenCycle) → o ≡ Some c → condemned_at c.phase ≡ None → Has (start_of t) b → shades_of t b ≢ shade.White

-- a is remembered where an edge from it to b wants that: where a is old and b isn't; and where b is condemned and a isn't
pub record IsWatched (t : Tables) (o : Option OpenCycle) (a b : BlockId) : Type 0 where
  pub covered : IsTrue (is_old_at t.blocks.blocks a) → IsFalse (is_old_at t.blocks.blocks b) → IsTrue (among t.cards.list a)
  pub condemned : (c : OpenCycle) (r : List BlockId) → o ≡ Some c → condemned_at c.phase ≡ Some r → IsFalse (among r a) → IsTrue (among r b) → Has (graph_of t).remembered a

-- what is stored into a wants that a is remembered: a is old and it isn't, or it is condemned
abbrev pub StoreWantsCard : Tables → Option OpenCycle → BlockId → Option BlockId → Type 0
StoreWantsCard t o a None = ⊥
StoreWantsCard t o a (Some b) = (IsTrue (is_old_at t.blocks.blocks a) × IsFalse (is_old_at t.blocks.blocks b)) ⊎ IsTrue (is_condemned_by o b)

-- nothing but shades and cards is new in the tables
abbrev pub OnlyNotes : Tables → Tables → Type 0
OnlyNotes old new = unshaded new ≡ record (unshaded old) { cards = new.cards }

-- more blocks are remembered than before by this one at most, and none fewer
pub record Remembers (old new : Tables) (a : BlockId) : Type 0 where
  pub still : (b : BlockId) → IsTrue (among old.cards.list b) → IsTrue (among new.cards.list b)
  pub fewer : (b : BlockId) → IsTrue (among new.cards.list b) → IsTrue (among old.cards.list b) ⊎ (b ≡ a)

-- how far a cycle of this mode is, as the barrier sees it
abbrev pub phase_seen : Mode → Phase → barrier.Phase
phase_seen m (phase.Marking marker reply kept) = seen.Marking m
phase_seen m (phase.Settling pass) = seen.Settling

-- how far the collection is, as the barrier sees it
abbrev pub seen_by_barrier : Option OpenCycle → barrier.Phase
seen_by_barrier None = seen.Idle
seen_by_barrier (Some c) = phase_seen c.mode c.phase
