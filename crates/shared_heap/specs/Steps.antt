-- What a call of the heap is in the states for which it stands
use Rattle.std.specs.Prelude.{◌≡◌, ℕ, Bool, false, Option, Some, None, List, [], ◌∷◌, ◌==◌, if◌then◌else◌}
use Rattle.az_base.specs.declared.action.Action.{Action}
use Rattle.az_base.specs.declared.block_id.BlockId.{BlockId}
use Rattle.az_base.specs.declared.misuse.Misuse.{Misuse}
use Rattle.az_base.specs.declared.misuse.Misuse.TheVariants as misuse
use Rattle.az_base.specs.declared.word.Class.{Class}
use Rattle.az_base.specs.declared.word.Word.{Word}
use Rattle.az_base.specs.Ids.{same_id, id_of}
use Rattle.block_layouts.specs.declared.layout.Layout.{Layout}
use Rattle.zone_model.specs.declared.call.Call.{Call}
use Rattle.zone_model.specs.declared.entry.Reply.{Reply}
use Rattle.zone_model.specs.declared.entry.Reply.TheVariants as reply
use Rattle.std.specs.FinMap.{get}
use Rattle.zone_model.specs.State.{State}
use Rattle.zone_model.specs.Misuses.{holder, words_named, word_in, null_block, no_word, wrong_class, first_of}
use Rattle.zone_model.specs.Step.{Step}
use Rattle.shared_heap.specs.Shared.{Shared, holding_more, written, with_birth}
use Rattle.shared_heap.specs.Stands.{Stands}

-- the heap stands for the state, and the thread hasn't ended
pub record Runs (h : Shared) (z : State) (t : ℕ) : Type 0 where
  pub stands : Stands h z
  pub running : z.ended t ≡ false

-- the call of the thread, with this reply, is a step to a state for which the heap stands
abbrev pub Stepped : Shared → State → ℕ → Call → Reply → Type 0
Stepped h z t call reply = (after : State) × Step z (record { thread = t; call = call; reply = reply }) after × Stands h after

-- the call needs a word of this class, at this place of the block in a register
pub record NeedsWord (z : State) (t : ℕ) (c : Call) (reg at : ℕ) (class : Class) : Type 0 where
  pub holder : holder c ≡ Some reg
  pub word : words_named z t c ≡ word_in z t reg at class

-- the least of the misuses 1 to 3 of a call
abbrev pub first_three : State → ℕ → Call → Option Misuse
first_three z t c = first_of ((null_block z t c, misuse.NullBlock) ∷ (no_word z t c, misuse.NoWord) ∷ (wrong_class z t c, misuse.WrongClass) ∷ [])

-- the heap after a reply that goes to a register of the thread: the thread holds the block once more
abbrev pub after_read : Shared → ℕ → Reply → Shared
after_read h t (reply.Block v) = holding_more h t v
after_read h t _ = h

-- the heap after a word was to be written
abbrev pub after_write : Shared → Option BlockId → ℕ → Word → Reply → Shared
after_write h a at w reply.Done = written h a at w
after_write h a at w _ = h

-- the heap after a block was to be born
abbrev pub after_birth : Shared → ℕ → Layout → List Action → Reply → Shared
after_birth h t layout actions (reply.Block (Some id)) = with_birth h t id layout actions
after_birth h t layout actions _ = h

-- the reply is this block, or null
abbrev pub names : Reply → BlockId → Bool
names (reply.Block (Some id)) q = same_id id q
names _ q = false

-- the id of the thread's next block; there is none where the serials are used up
abbrev pub next_id : State → ℕ → Option BlockId
next_id z t = if z.serials t == z.options.serials then None else Some (id_of t (z.serials t))

-- the block is an unescaped one, with this layout and these words, without actions
abbrev pub IsUnescaped : State → BlockId → Layout → List Word → Type 0
IsUnescaped z id layout words = get z.blocks id ≡ Some (record { layout = layout; words = words; actions = []; finalised = false; since = None })
