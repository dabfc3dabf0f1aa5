-- What a heap holds
use Rattle.std.specs.Prelude.{◌≡◌, ℕ, ◌+◌, ◌==◌, List, [], Option, Some, None, Bool, false, not, if◌then◌else◌, slice_set, drop, replicate, get_or, is_some}
use Rattle.std.specs.Option.{option_map_or, option_and_then}
use Rattle.std.specs.FinMap.{FinMap, get, insert, empty, len}
use Rattle.az_base.specs.declared.action.Action.{Action}
use Rattle.az_base.specs.declared.block_id.BlockId.{BlockId}
use Rattle.az_base.specs.declared.options.Options.{Options}
use Rattle.az_base.specs.declared.word.Word.{Word}
use Rattle.az_base.specs.Ids.{id_cmp, among}
use Rattle.az_base.specs.Places.{pair_cmp, loc_cmp}
use Rattle.block_layouts.specs.declared.layout.Layout.{Layout}
use Rattle.block_layouts.specs.Layouts.{first_words}
use Rattle.zone_model.specs.declared.entry.Stats.{Stats}
use Rattle.zone_model.specs.Maps.{total}
use Rattle.zone_model.specs.State.{with_edit}
use Rattle.heap_cycle.specs.Collector.{Collector, no_collector}
use Rattle.block_table.specs.Holds.{Holds, times, with_times}
use Rattle.shared_heap.specs.Ready.{Ready, unready, with_room}
use Rattle.block_table.specs.Stored.{HeapBlock, newly}
use Rattle.block_table.specs.Table.{used_by}

pub record Shared : Type 0 where
  pub options : Options
  pub blocks : FinMap id_cmp HeapBlock
  -- of each block, which threads hold it and how often
  pub holds : FinMap id_cmp Holds
  -- of 256
  pub roots : List (Option BlockId)
  -- the positive external retain counts
  pub counts : FinMap id_cmp ℕ
  -- the associations, by object and key
  pub assocs : FinMap pair_cmp BlockId
  -- the weak locations that show a block
  pub weak : FinMap loc_cmp BlockId
  -- for which calls there is room
  pub ready : Ready
  -- the lengths of the blocks for which there is room, next first
  pub room : List ℕ
  -- what it shows of its collections
  pub gc : Collector

-- what the root holds: null past the last one
abbrev pub root_in : Shared → ℕ → Option BlockId
root_in h g = get_or h.roots g None

-- how often the thread holds the block
abbrev pub held : Shared → ℕ → BlockId → ℕ
held h t id = option_map_or (λ m. times m t) (get h.holds id) 0

-- no thread holds the block
abbrev pub IsFresh : Shared → BlockId → Type 0
IsFresh h id = get h.holds id ≡ Some empty

-- how many blocks there are
abbrev pub number_of : FinMap id_cmp HeapBlock → ℕ
number_of blocks = total (λ id k. 1) blocks

-- the statistics: the blocks, their quanta, the blocks with a positive count, the weak locations that show a block, and the associations
abbrev pub stats_in : Shared → Stats
stats_in h = record { blocks = number_of h.blocks; quanta = used_by h.blocks; retained = len h.counts; weak = len h.weak; assocs = len h.assocs }

-- no blocks, all roots null, all else empty, and no cycle open
abbrev pub new_heap : Options → Shared
new_heap o = record { options = o; blocks = empty; holds = empty; roots = replicate 256 None; counts = empty; assocs = empty; weak = empty; ready = unready; room = []; gc = no_collector }

-- there is room for one more block with a count, and for the object and the value where they are given
abbrev pub readied : Shared → Option BlockId → Option BlockId → Shared
readied h object value = record h { ready = with_room h.ready object value }

-- the root holds the block, or null
abbrev pub rooted : Shared → ℕ → Option BlockId → Shared
rooted h g v = record h { roots = slice_set h.roots g v }

-- the thread holds the block so often
abbrev pub holding : Shared → ℕ → BlockId → ℕ → Shared
holding h t id n = record h { holds = with_edit h.holds id (λ m. with_times m t n) }

-- the thread holds the block, if there is one, once more
abbrev pub holding_more : Shared → ℕ → Option BlockId → Shared
holding_more h t None = h
holding_more h t (Some id) = record h { holds = with_edit h.holds id (λ m. with_times m t (times m t + 1)) }

-- a word of the block, if there is one, is changed
abbrev pub written : Shared → Option BlockId → ℕ → Word → Shared
written h None at w = h
written h (Some id) at w = record h { blocks = with_edit h.blocks id (λ k. record k { words = slice_set k.words at w }) }

-- a new block, which the thread holds once
abbrev pub with_birth : Shared → ℕ → BlockId → Layout → List Action → Shared
with_birth h t id layout actions = record h {
  blocks = insert h.blocks id (newly layout (first_words layout) actions);
  holds = insert h.holds id (with_times empty t 1);
}

-- a block that has escaped, which nobody holds
abbrev pub admitted : Shared → BlockId → Layout → List Word → Shared
admitted h id layout words = record h {
  blocks = insert h.blocks id (newly layout words []);
  holds = insert h.holds id empty;
  room = drop 1 h.room;
}

-- the same heap but for its collections
abbrev pub with_gc : Shared → Collector → Shared
with_gc h g = record h { gc = g }

-- the condemned blocks of the open cycle, if there are any
abbrev pub condemned_in : Shared → Option (List BlockId)
condemned_in h = option_and_then (λ g. g.condemned) h.gc.cycle

-- the block is condemned
abbrev pub is_condemned_in : Shared → BlockId → Bool
is_condemned_in h b = option_map_or (λ r. among r b) (condemned_in h) false

-- how many condemned blocks wait for their finaliser; 0 while none are condemned
abbrev pub finalisers_left : Shared → ℕ
finalisers_left h = option_map_or (λ g. if is_some g.condemned then g.left else 0) h.gc.cycle 0

-- another thread's cycle is open
abbrev pub is_busy : Shared → ℕ → Bool
is_busy h t = option_map_or (λ g. not (g.owner == t)) h.gc.cycle false
