-- What is wrong with a call, told from what the heap holds
use Rattle.std.specs.Prelude.{◌≡◌, ◌≤◌, ℕ, ◌+◌, nat_le, nat_lt, Bool, false, not, List, [], ◌∷◌, Option, Some, None, is_none, Result, Ok, Err, if◌then◌else◌, option_and_then, slice_get}
use Rattle.std.specs.List.{list_any}
use Rattle.std.specs.Option.{option_map_or}
use Rattle.std.specs.FinMap.{get}
use Rattle.az_base.specs.declared.action.Action.{Action}
use Rattle.az_base.specs.declared.block_id.BlockId.{BlockId}
use Rattle.az_base.specs.declared.misuse.Misuse.{Misuse}
use Rattle.az_base.specs.declared.misuse.Misuse.TheVariants as misuse
use Rattle.az_base.specs.declared.word.Class.{Class}
use Rattle.az_base.specs.declared.word.Class.TheVariants as class
use Rattle.az_base.specs.declared.word.Word.{Word}
use Rattle.az_base.specs.declared.word.Word.TheVariants as word
use Rattle.block_layouts.specs.declared.layout.Layout.{Layout}
use Rattle.block_layouts.specs.Layouts.{len_of, class_at, same_class, quanta}
use Rattle.zone_model.specs.declared.entry.Reply.{Reply}
use Rattle.zone_model.specs.declared.entry.Reply.TheVariants as reply
use Rattle.zone_model.specs.Misuses.{Named, pass_place, first_of}
use Rattle.block_table.specs.Table.{used_by}
use Rattle.shared_heap.specs.Shared.{Shared}

-- the class of a word, where there is one
abbrev pub class_in : Shared → BlockId → ℕ → Option Class
class_in h id at = option_and_then (λ k. class_at k.layout at) (get h.blocks id)

-- a word of a block, where both are there
abbrev pub word_in : Shared → Option BlockId → ℕ → Option Word
word_in h a at = option_and_then (λ k. slice_get k.words at) (option_and_then (λ id. get h.blocks id) a)

-- the number in a word, and 0 where there is none
abbrev pub number_in : Option Word → ℕ
number_in (Some (word.Number n)) = n
number_in _ = 0

-- what is wrong where a word of the first class is needed and this is found
abbrev pub class_misuse : Class → Option Class → Option Misuse
class_misuse class None = Some misuse.NoWord
class_misuse class (Some found) = if same_class found class then None else Some misuse.WrongClass

-- the least of NullBlock, NoWord and WrongClass, where a word of this class is needed
abbrev pub word_misuse : Shared → Option BlockId → ℕ → Class → Option Misuse
word_misuse h None at class = Some misuse.NullBlock
word_misuse h (Some id) at class = class_misuse class (class_in h id at)

-- the block whose word is found, or what is wrong
abbrev pub Finds : Shared → Option BlockId → ℕ → Class → Result BlockId Misuse → Type 0
Finds h a at class (Ok id) = (a ≡ Some id) × (class_in h id at ≡ Some class) × (word_misuse h a at class ≡ None)
Finds h a at class (Err m) = word_misuse h a at class ≡ Some m

-- the misuse, or else this reply
abbrev pub reply_or : Option Misuse → Reply → Reply
reply_or None right = right
reply_or (Some m) right = reply.Misuse m

-- the place of a word isn't below the number of words
abbrev pub is_past : Named → Bool
is_past w = nat_le (len_of w.layout) w.at

-- the word is of another class
abbrev pub is_other : Named → Bool
is_other w = option_map_or (λ class. not (same_class class w.class)) (class_at w.layout w.at) false

-- the action passes a word past the end
abbrev pub passes_past : Layout → Action → Bool
passes_past layout action = option_map_or (λ at. is_past (record { layout = layout; at = at; class = class.Strong })) (pass_place action) false

-- the action passes a word that isn't Strong
abbrev pub passes_other : Layout → Action → Bool
passes_other layout action = option_map_or (λ at. is_other (record { layout = layout; at = at; class = class.Strong })) (pass_place action) false

-- the quanta of the blocks and these are above the option heap
abbrev pub is_full : Shared → ℕ → Bool
is_full h more = nat_lt h.options.heap_quanta (used_by h.blocks + more)

-- the least misuse of a birth as an escaped block with this id, None where the serials are used up
abbrev pub birth_misuse : Shared → Option BlockId → Layout → List Action → Option Misuse
birth_misuse h id layout actions = first_of (
    (list_any (passes_past layout) actions, misuse.NoWord)
    ∷ (list_any (passes_other layout) actions, misuse.WrongClass)
    ∷ (is_none id, misuse.SerialsUsed)
    ∷ (is_full h (quanta (len_of layout)), misuse.ZoneFull)
    ∷ [])

-- the id with which the block is born, or what is wrong
abbrev pub PlansBirth : Shared → Option BlockId → Layout → List Action → Result BlockId Misuse → Type 0
PlansBirth h a layout actions (Ok id) = (a ≡ Some id) × (birth_misuse h a layout actions ≡ None) × (used_by h.blocks + quanta (len_of layout) ≤ h.options.heap_quanta)
PlansBirth h a layout actions (Err m) = birth_misuse h a layout actions ≡ Some m
