-- What a heap keeps while it collects
use Rattle.std.specs.Prelude.{◌≡◌, ◌≤◌, ◌+◌, nat_lt, ℕ, Bool, false, not, List, Option, None, Some, IsTrue, IsFalse, count_by, length, option_map, slice_get, take, []}
use Rattle.std.specs.Option.{option_map_or}
use Rattle.std.specs.FinMap.{FinMap, empty, get, retain_keys}
use Rattle.std.specs.List.Sorted.{IsStrictlySortedBy}
use Rattle.az_base.specs.declared.block_id.BlockId.{BlockId}
use Rattle.az_base.specs.Ids.{id_cmp, among}
use Rattle.quantum_space.specs.declared.shade.Shade.{Shade}
use Rattle.quantum_space.specs.Shapes.{Has, edges}
use Rattle.gen_marker.specs.Marking.{Marking, Tracks, in_scope}
use Rattle.gen_marker.specs.Tight.{Tight}
use Rattle.finalise_pass.specs.Passing.{Passing, HasPassed}
use Rattle.block_table.specs.Stored.{HeapBlock}
use Rattle.zone_model.specs.Room.{WithRoom}
use Rattle.heap_tables.specs.Graphs.{graph_of, shades_of}
use Rattle.heap_tables.specs.Running.{finals_of}
use Rattle.heap_tables.specs.declared.tables.Tables.{Tables}
use Rattle.heap_cycle.specs.Collector.{Collecting, Collector}
use Rattle.heap_cycle.specs.Waiting.{awaits_in}
use Rattle.heap_cycle.specs.declared.open_cycle.OpenCycle.{OpenCycle}
use Rattle.heap_cycle.specs.declared.open_cycle.Phase.{Phase}
use Rattle.heap_cycle.specs.declared.open_cycle.Phase.TheVariants as phase

-- the blocks that had escaped as the open cycle began
abbrev pub start_of : Tables → List BlockId
start_of t = take t.blocks.began t.blocks.order

-- the condemned blocks of a phase, once there are any
abbrev pub condemned_at : Phase → Option (List BlockId)
condemned_at (phase.Marking marker reply kept) = None
condemned_at (phase.Settling pass) = Some pass.condemned

-- the shades that a phase shows
abbrev pub shades_at : Tables → Phase → FinMap id_cmp Shade
shades_at t (phase.Marking marker reply kept) = retain_keys t.blocks.shades (among (start_of t))
shades_at t (phase.Settling pass) = empty

-- what is seen of an open cycle
abbrev pub collecting : Tables → OpenCycle → Collecting
collecting t o = record {
  owner = o.owner;
  mode = o.mode;
  start = start_of t;
  shades = shades_at t o.phase;
  condemned = condemned_at o.phase;
  left = o.left;
  rooms = length o.lent.items;
}

-- what is seen of the collections of a heap
abbrev pub collector_of : Tables → Option OpenCycle → Collector
collector_of t o = record { cards = t.cards.list; cycle = option_map (collecting t) o }

-- a cycle that marks: the marker tracks the grey blocks, the graph is tight, no more finalisers wait than were foreseen, and there is room for the lists
pub record Marks (t : Tables) (o : OpenCycle) (m : Marking) (reply kept : WithRoom) : Type 0 where
  pub mode : m.mode ≡ o.mode
  pub tracks : Tracks m (graph_of t).blocks (shades_of t)
  pub tight : Tight o.mode (graph_of t) (shades_of t)
  pub left : count_by (awaits_in t.blocks.blocks) (start_of t) ≤ o.left
  pub empty : reply.list ≡ []
  pub reply_room : length (start_of t) ≤ reply.spare
  pub kept_room : length (start_of t) ≤ kept.spare

-- a cycle that settles: its condemned blocks ascend, they are of the start and in scope, whatever leads into them is remembered, and exactly so many of them wait for their finaliser, none of which the pass has gone past
pub record Settles (t : Tables) (o : OpenCycle) (p : Passing) : Type 0 where
  pub ascending : IsStrictlySortedBy id_cmp p.condemned
  pub passed : HasPassed p (finals_of t)
  pub within : (b : BlockId) → IsTrue (among p.condemned b) → Has (start_of t) b
  pub scope : (b : BlockId) → IsTrue (among p.condemned b) → IsTrue (in_scope o.mode (graph_of t) b)
  pub watched : (a b : BlockId) → IsFalse (among p.condemned a) → IsTrue (among p.condemned b) → Has (edges (graph_of t) a) b → Has (graph_of t).remembered a
  pub left : count_by (awaits_in t.blocks.blocks) p.condemned ≡ o.left

-- what a phase keeps
abbrev pub KeepsPhase : Tables → OpenCycle → Phase → Type 0
KeepsPhase t o (phase.Marking marker reply kept) = Marks t o marker reply kept
KeepsPhase t o (phase.Settling pass) = Settles t o pass

-- a block of the table is old
abbrev pub is_old_at : FinMap id_cmp HeapBlock → BlockId → Bool
is_old_at blocks b = option_map_or (λ (k : HeapBlock). not (nat_lt k.age 3)) (get blocks b) false

-- what the tables keep of edges and cards: edges lead from blocks that are there; an old block with an edge to one that isn't old is remembered; remembered are blocks that are there, and there is room to remember each block
pub record KeepsCards (t : Tables) : Type 0 where
  pub rooted : (a b : BlockId) → Has (edges (graph_of t) a) b → Has t.blocks.order a
  pub covered : (a b : BlockId) → IsTrue (is_old_at t.blocks.blocks a) → Has (edges (graph_of t) a) b → IsFalse (is_old_at t.blocks.blocks b) → IsTrue (among t.cards.list a)
  pub there : (a : BlockId) → IsTrue (among t.cards.list a) → Has t.blocks.order a
  pub room : length t.blocks.order + length t.blocks.room ≤ length t.cards.list + t.cards.spare

-- until a cycle is condemned only old blocks are remembered
abbrev pub OldCards : Tables → Option OpenCycle → Type 0
OldCards t o = option_map_or (λ o. condemned_at o.phase) o None ≡ None → (a : BlockId) → IsTrue (among t.cards.list a) → IsTrue (is_old_at t.blocks.blocks a)

-- what tables and their open cycle keep
pub record Collects (t : Tables) (o : Option OpenCycle) : Type 0 where
  pub cards : KeepsCards t
  pub old : OldCards t o
  pub open_cycle : (c : OpenCycle) → o ≡ Some c → KeepsPhase t c c.phase
  -- each list that can be lent has room for the start
  pub lent : (c : OpenCycle) (n : ℕ) (room : WithRoom) → o ≡ Some c → slice_get c.lent.items n ≡ Some room → (room.list ≡ []) × (length (start_of t) ≤ room.spare)
