-- Worked collections: histories of a busy zone, of garbage, of a finaliser that keeps its block, of a dead block outside the condemned set, and of an old block
use Rattle.std.specs.Prelude.{ℕ, List, [], ◌∷◌, ◌++◌, Some}
use Rattle.az_base.specs.declared.action.Action.{Action}
use Rattle.az_base.specs.declared.action.Action.TheVariants as action
use Rattle.az_base.specs.declared.action.Mode.{Mode}
use Rattle.az_base.specs.declared.action.Mode.TheVariants as mode
use Rattle.az_base.specs.declared.block_id.BlockId.{BlockId}
use Rattle.az_base.specs.declared.numbers.RootNo.{RootNo}
use Rattle.az_base.specs.declared.word.Class.TheVariants as class
use Rattle.az_base.specs.Ids.{id_of}
use Rattle.block_layouts.specs.declared.layout.Layout.{Layout}
use Rattle.block_layouts.specs.declared.layout.Shape.TheVariants as shape
use Rattle.zone_model.specs.declared.call.Call.TheVariants as call
use Rattle.zone_model.specs.declared.entry.Reply.TheVariants as reply
use Rattle.zone_model.specs.declared.entry.Entry.{Entry}
use Rattle.zone_model.specs.Replies.{replied}
use Rattle.zone_model.specs.Worked.{first_thread, ids, first_block, new_entry}

-- the second block of thread 1
abbrev pub second_block : BlockId
second_block = id_of 1 1

-- two roots
abbrev pub root_0 : RootNo
root_0 = record { 0 = 0 }

abbrev pub root_1 : RootNo
root_1 = record { 0 = 1 }

-- thread 1 makes a block with actions into a register
abbrev pub birth : ℕ → Layout → List Action → BlockId → Entry
birth to layout actions id = first_thread (call.New to layout actions) (reply.Block (Some id))

-- thread 1 puts what a register holds into a root, stores it into the first word of the block in another one, or drops it
abbrev pub root_set : RootNo → ℕ → Entry
root_set root from = first_thread (call.SetRoot root from) reply.Done

abbrev pub stored : ℕ → ℕ → Entry
stored into from = first_thread (call.Store into 0 from) reply.Done

abbrev pub dropped : ℕ → Entry
dropped reg = first_thread (call.DropReg reg) reply.Done

-- the steps of a cycle of thread 1
abbrev pub begun : Mode → Entry
begun m = first_thread (call.Begin m) reply.Begun

abbrev pub condemned : List BlockId → Entry
condemned r = first_thread call.Condemn (reply.Condemned (ids r))

abbrev pub finalised : BlockId → Entry
finalised id = first_thread call.Finalise (reply.Finalised id)

abbrev pub settled : List BlockId → List BlockId → Entry
settled gone kept = first_thread call.Reclaim (reply.Settled (ids gone) (ids kept))

-- a full collection of nothing
abbrev pub nothing_collected : List Entry
nothing_collected = begun mode.Full ∷ condemned [] ∷ settled [] [] ∷ []

-- thread 2 asks for a collection while thread 1's is open
abbrev pub busy_history : List Entry
busy_history = begun mode.Full ∷ replied 2 (call.Begin mode.Full) reply.Busy ∷ condemned [] ∷ settled [] [] ∷ []

-- the same, but it is let in
abbrev pub two_cycles : List Entry
two_cycles = begun mode.Full ∷ replied 2 (call.Begin mode.Full) reply.Begun ∷ []

-- thread 1 makes a block of one Strong word, and puts it into a root
abbrev pub rooted_block : List Entry
rooted_block = new_entry (shape.Scanned 1) ∷ root_set root_0 0 ∷ []

-- a collection begins while the block is held
abbrev pub held_block : List Entry
held_block = rooted_block ++ begun mode.Full ∷ []

-- a collection begins once the block was dropped, and the root is null
abbrev pub garbage : List Entry
garbage = rooted_block ++ dropped 0 ∷ root_set root_0 0 ∷ begun mode.Full ∷ []

-- it is condemned, and reclaimed
abbrev pub garbage_history : List Entry
garbage_history = garbage ++ condemned (first_block ∷ []) ∷ settled (first_block ∷ []) [] ∷ []

-- a layout of one Strong word, as an object
abbrev pub one_word : Layout
one_word = shape.Object (class.Strong ∷ [])

-- garbage whose finaliser puts it into a root
abbrev pub kept_block : List Entry
kept_block = birth 0 one_word (action.Keep root_0 ∷ []) first_block ∷ dropped 0 ∷ begun mode.Full ∷ condemned (first_block ∷ []) ∷ finalised first_block ∷ []

-- it is kept
abbrev pub finaliser_history : List Entry
finaliser_history = kept_block ++ settled [] (first_block ∷ []) ∷ []

-- a block that was held at Begin gets a reference to a condemned block, which a finaliser gave, and then both are dropped
abbrev pub dead_referrer : List Entry
dead_referrer =
    new_entry (shape.Scanned 1) ∷ root_set root_0 0 ∷ birth 1 one_word (action.Keep root_1 ∷ []) second_block ∷ dropped 1
    ∷ begun mode.Full ∷ condemned (second_block ∷ []) ∷ finalised second_block
    ∷ first_thread (call.GetRoot 1 root_1) (reply.Block (Some second_block)) ∷ stored 0 1
    ∷ dropped 0 ∷ dropped 1 ∷ root_set root_0 0 ∷ root_set root_1 0 ∷ []

-- the condemned block is kept
abbrev pub dead_referrer_history : List Entry
dead_referrer_history = dead_referrer ++ settled [] (second_block ∷ []) ∷ []

-- a block that three collections have left gets a reference to a new one, and then both are dropped; a young collection begins
abbrev pub old_referrer : List Entry
old_referrer =
    rooted_block ++ nothing_collected ++ nothing_collected ++ nothing_collected
    ++ birth 1 (shape.Scanned 0) [] second_block ∷ stored 0 1 ∷ dropped 0 ∷ dropped 1 ∷ root_set root_0 0 ∷ begun mode.Young ∷ []

-- it takes neither
abbrev pub old_referrer_history : List Entry
old_referrer_history = old_referrer ++ condemned [] ∷ settled [] [] ∷ []
