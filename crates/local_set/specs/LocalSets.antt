-- What a local set is seen as
use Rattle.std.specs.Prelude.{ℕ, Bool, List, Option, slice_get, option_and_then}
use Rattle.std.specs.FinMap.{FinMap, from_entries}
use Rattle.az_base.specs.declared.block_id.BlockId.{BlockId}
use Rattle.az_base.specs.declared.options.Options.{Options}
use Rattle.az_base.specs.Ids.{id_cmp}
use Rattle.zone_model.specs.declared.entry.Entry.{Entry}
use Rattle.zone_model.specs.State.{Block}
use Rattle.zone_model.specs.Part.{Part}

-- entries in their order, and how many more there is room for
pub record Queue : Type 0 where
  pub list : List Entry
  pub spare : ℕ

-- the blocks by id, in no special order, and the blocks of which the number of words that refer to them may have changed
pub record Table : Type 0 where
  pub list : List (BlockId × Block)
  pub changed : List BlockId

-- what one thread has for itself
pub record LocalSet : Type 0 where
  pub thread : ℕ
  pub options : Options
  -- of sixteen
  pub registers : List (Option BlockId)
  -- the registers as they were when its holds were last published
  pub published : List (Option BlockId)
  pub serials : ℕ
  pub ended : Bool
  -- the unescaped blocks, each once, in no special order
  pub blocks : List (BlockId × Block)
  -- the blocks of which the number of words that refer to them may have changed since its holds were last published
  pub changed : List BlockId
  -- the entries that wait
  pub waiting : List Entry
  -- for how many more of them there is room
  pub spare : ℕ

-- what a register holds
abbrev pub held_in : List (Option BlockId) → ℕ → Option BlockId
held_in registers r = option_and_then (λ o. o) (slice_get registers r)

-- the blocks by id
abbrev pub blocks_of : List (BlockId × Block) → FinMap id_cmp Block
blocks_of es = from_entries es

-- the part for which it stands
abbrev pub part_in : LocalSet → Part
part_in l = record { options = l.options; registers = held_in l.registers; serials = l.serials; ended = l.ended; blocks = blocks_of l.blocks }

-- its blocks, and what is noted of them
abbrev pub table_in : LocalSet → Table
table_in l = record { list = l.blocks; changed = l.changed }
