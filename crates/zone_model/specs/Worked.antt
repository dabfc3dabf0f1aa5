-- Worked cases: the history of the first script, and one that assigns to a weak root
use Rattle.std.specs.Prelude.{ℕ, List, [], ◌∷◌, Option, Some, None}
use Rattle.az_base.specs.declared.block_id.BlockId.{BlockId}
use Rattle.az_base.specs.Ids.{id_of}
use Rattle.az_base.specs.declared.numbers.WeakNo.{WeakNo}
use Rattle.block_layouts.specs.declared.layout.Layout.{Layout}
use Rattle.block_layouts.specs.declared.layout.Shape.TheVariants as shape
use Rattle.zone_model.specs.declared.call.Call.{Call}
use Rattle.zone_model.specs.declared.call.Call.TheVariants as call
use Rattle.zone_model.specs.declared.call.Loc.TheVariants as loc
use Rattle.zone_model.specs.declared.entry.Reply.{Reply}
use Rattle.zone_model.specs.declared.entry.Reply.TheVariants as reply
use Rattle.zone_model.specs.declared.entry.Entry.{Entry}
use Rattle.zone_model.specs.Room.{WithRoom}

-- an entry of thread 1
abbrev pub first_thread : Call → Reply → Entry
first_thread c r = record { thread = 1; call = c; reply = r }

-- these ids, with no room
abbrev pub ids : List BlockId → WithRoom
ids l = record { list = l; spare = 0 }

-- the first block of thread 1
abbrev pub first_block : BlockId
first_block = id_of 1 0

-- thread 1 makes a block with this layout
abbrev pub new_entry : Layout → Entry
new_entry l = first_thread (call.New 0 l []) (reply.Block (Some first_block))

-- thread 1 makes a block of two Strong words and leaves, and these blocks are reclaimed
abbrev pub first_history : List BlockId → List Entry
first_history gone = new_entry (shape.Scanned 2) ∷ first_thread call.Leave (reply.Reclaimed (ids gone)) ∷ []

-- the first weak root
abbrev pub first_weak : WeakNo
first_weak = record { 0 = 0 }

-- thread 1 assigns what a register holds to the first weak root, which then shows this
abbrev pub assign_entry : ℕ → Option BlockId → Entry
assign_entry from shows = first_thread (call.SetWeak (loc.Root first_weak) from) (reply.Block shows)

-- thread 1 makes a block, and the weak root shows it
abbrev pub assigned_history : List Entry
assigned_history = new_entry (shape.Scanned 2) ∷ assign_entry 0 (Some first_block) ∷ []

-- and then it assigns null
abbrev pub cleared_history : List Entry
cleared_history = new_entry (shape.Scanned 2) ∷ assign_entry 0 (Some first_block) ∷ assign_entry 1 None ∷ []
