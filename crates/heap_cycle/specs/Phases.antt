-- What each phase of a cycle makes of the tables
use Rattle.std.specs.Prelude.{true, ◌≡◌, ◌≤◌, ◌-◌, ◌↔◌, ℕ, not, List, [], Option, None, Some, IsTrue, IsFalse, count_by, filter, find, fold, length, option_map, slice_get, slice_set, if◌then◌else◌}
use Rattle.std.specs.Option.{option_map_or}
use Rattle.std.specs.FinMap.{FinMap, empty, get, retain_keys}
use Rattle.std.specs.List.Sorted.{IsStrictlySortedBy}
use Rattle.az_base.specs.declared.action.Action.{Action}
use Rattle.az_base.specs.declared.action.Action.TheVariants as action
use Rattle.az_base.specs.declared.action.Mode.{Mode}
use Rattle.az_base.specs.declared.block_id.BlockId.{BlockId}
use Rattle.az_base.specs.Ids.{id_cmp, among}
use Rattle.quantum_space.specs.Shapes.{Has, edges}
use Rattle.gen_marker.specs.Marking.{Begun, Finishes, NoGrey, Shut, Spreads, is_left}
use Rattle.finalise_pass.specs.Kept.{IsKeptIn, inside}
use Rattle.block_table.specs.Stored.{HeapBlock, older}
use Rattle.block_table.specs.Table.{without}
use Rattle.zone_model.specs.Collection.{Lists}
use Rattle.zone_model.specs.Room.{WithRoom}
use Rattle.zone_model.specs.State.{referent, with_edit}
use Rattle.heap_tables.specs.Graphs.{graph_of, shades_of}
use Rattle.heap_tables.specs.Running.{actions_in}
use Rattle.heap_tables.specs.Unshaded.{unshaded}
use Rattle.heap_tables.specs.declared.tables.Tables.{Tables}
use Rattle.heap_cycle.specs.Collects.{KeepsPhase, condemned_at, is_old_at, shades_at, start_of}
use Rattle.heap_cycle.specs.Waiting.{awaits_in}
use Rattle.heap_cycle.specs.declared.open_cycle.OpenCycle.{OpenCycle}

-- the roots after an action of the block: it puts the block, or what a Strong word of it holds, into a root
abbrev pub after_action : FinMap id_cmp HeapBlock → BlockId → List (Option BlockId) → Action → List (Option BlockId)
after_action blocks b roots (action.Keep g) = slice_set roots g.0 (Some b)
after_action blocks b roots (action.Pass g at) = slice_set roots g.0 (referent (option_map_or (λ (k : HeapBlock). slice_get k.words at) (get blocks b) None))

-- the tables as a cycle begins: all blocks are of its start
abbrev pub at_begin : Tables → Tables
at_begin t = record t { blocks = record t.blocks { began = length t.blocks.order } }

-- a cycle has opened over the tables, with room for all that it does: it marks, and nothing but shades is new in the tables
pub record IsOpened (old new : Tables) (mode : Mode) (o : OpenCycle) : Type 0 where
  pub tables : unshaded new ≡ unshaded (at_begin old)
  pub begun : Begun mode (graph_of new) (shades_of old) (shades_of new)
  pub marks : KeepsPhase new o o.phase
  pub fresh : condemned_at o.phase ≡ None
  pub rooms : length o.lent.items ≡ 3
  pub lent : (n : ℕ) (room : WithRoom) → slice_get o.lent.items n ≡ Some room → (room.list ≡ []) × (length (start_of new) ≤ room.spare)

-- an open cycle marked on over the tables: nothing but shades is new in these, nothing but its phase in the cycle, and shades only spread along edges
pub record IsSliced (old new : Tables) (before after : OpenCycle) : Type 0 where
  pub tables : unshaded new ≡ unshaded old
  pub cycle : after ≡ record before { phase = after.phase }
  pub marks : KeepsPhase new after after.phase
  pub fresh : condemned_at after.phase ≡ None
  pub spreads : Spreads before.mode (graph_of old) (shades_of old) (shades_of new)

-- an open cycle came to the end of marking over the tables, and these blocks are condemned: what is white then, and in scope
pub record IsCondemned (old new : Tables) (before after : OpenCycle) (r : List BlockId) : Type 0 where
  pub tables : unshaded new ≡ unshaded old
  pub cycle : after ≡ record before { left = after.left; phase = after.phase }
  pub settles : KeepsPhase new after after.phase
  pub condemned : condemned_at after.phase ≡ Some r
  pub shown : shades_at new after.phase ≡ empty
  pub ascending : IsStrictlySortedBy id_cmp r
  pub ids : (b : BlockId) → among r b ≡ among (filter (is_left before.mode (graph_of old) (shades_of new)) (start_of old)) b
  pub finishes : Finishes before.mode (graph_of old) (shades_of old) (shades_of new)
  pub shut : Shut before.mode (graph_of old) (shades_of new)
  pub no_grey : NoGrey (start_of old) (shades_of new)
  pub waiting : after.left ≡ count_by (awaits_in old.blocks.blocks) r
  pub foreseen : after.left ≤ before.left

-- the finaliser of the least condemned block that waits has run over the tables
pub record IsFinalised (old new : Tables) (before after : OpenCycle) (b : BlockId) : Type 0 where
  pub condemned : List BlockId
  pub was : condemned_at before.phase ≡ Some condemned
  pub stays : condemned_at after.phase ≡ Some condemned
  pub next : find (awaits_in old.blocks.blocks) condemned ≡ Some b
  pub tables : new ≡ record old { roots = fold (after_action old.blocks.blocks b) old.roots (actions_in old.blocks.blocks b); blocks = record old.blocks { blocks = with_edit old.blocks.blocks b (λ (k : HeapBlock). record k { finalised = true }) } }
  pub cycle : after ≡ record before { left = before.left - 1; phase = after.phase }
  pub settles : KeepsPhase new after after.phase

-- a cycle that settles has settled over the tables, and these of its condemned blocks are kept, and these reclaimed
pub record HasSettled (old new : Tables) (before : OpenCycle) (kept gone : List BlockId) : Type 0 where
  pub condemned : List BlockId
  pub was : condemned_at before.phase ≡ Some condemned
  pub tables : unshaded new ≡ unshaded old
  pub kept_is : Lists kept (λ b. IsTrue (among (inside (graph_of old) condemned) b) × IsKeptIn (graph_of old) (inside (graph_of old) condemned) b)
  pub gone_is : Lists gone (λ b. IsTrue (among (inside (graph_of old) condemned) b) × ¬ IsKeptIn (graph_of old) (inside (graph_of old) condemned) b)

-- the block is old and refers to one that isn't
abbrev pub WantsCard : Tables → BlockId → Type 0
WantsCard t a = IsTrue (is_old_at t.blocks.blocks a) × ((b : BlockId) × Has (edges (graph_of t) a) b × IsFalse (is_old_at t.blocks.blocks b))

-- what is left where these condemned blocks are kept and these are reclaimed: the reclaimed are gone, with what is kept of them and with their associations; the others are older, and exactly those are remembered that want it
pub record IsReclaimed (old new : Tables) (before : OpenCycle) (kept gone : List BlockId) : Type 0 where
  pub condemned : List BlockId
  pub was : condemned_at before.phase ≡ Some condemned
  pub kept_is : Lists kept (λ b. IsTrue (among (inside (graph_of old) condemned) b) × IsKeptIn (graph_of old) (inside (graph_of old) condemned) b)
  pub gone_is : Lists gone (λ b. IsTrue (among (inside (graph_of old) condemned) b) × ¬ IsKeptIn (graph_of old) (inside (graph_of old) condemned) b)
  pub blocks : (b : BlockId) → get new.blocks.blocks b ≡ (if among gone b then None else option_map older (get old.blocks.blocks b))
  pub holds : new.blocks.holds ≡ without old.blocks.holds gone
  pub assocs : new.assocs.pairs ≡ retain_keys old.assocs.pairs (λ p. not (among gone p.0))
  pub room : new.blocks.room ≡ []
  pub roots : new.roots ≡ old.roots
  pub counts : new.counts ≡ old.counts
  pub cards : (a : BlockId) → IsTrue (among new.cards.list a) ↔ WantsCard new a
