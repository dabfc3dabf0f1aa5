-- What a call of a local set answers
use Rattle.std.specs.Prelude.{◌≡◌, ◌<◌, ◌≤◌, ℕ, Bool, true, false, List, [], ◌∷◌, ◌++◌, length, Option, None, Some, Result, Ok, Err, MatchOption, nat_le, not, ◌==◌, if◌then◌else◌, option_and_then}
use Rattle.std.specs.List.{list_any}
use Rattle.std.specs.Option.{option_map_or}
use Rattle.std.specs.FinMap.{get}
use Rattle.az_base.specs.declared.block_id.BlockId.{BlockId}
use Rattle.az_base.specs.declared.misuse.Misuse.{Misuse}
use Rattle.az_base.specs.declared.misuse.Misuse.TheVariants as misuse
use Rattle.az_base.specs.declared.word.Class.{Class}
use Rattle.az_base.specs.declared.word.Word.{Word}
use Rattle.az_base.specs.Ids.{id_of}
use Rattle.block_layouts.specs.Layouts.{len_of, class_at, same_class}
use Rattle.zone_model.specs.State.{Block}
use Rattle.zone_model.specs.Misuses.{Named, first_of}
use Rattle.zone_model.specs.declared.call.Call.{Call}
use Rattle.zone_model.specs.declared.entry.Entry.{Entry}
use Rattle.zone_model.specs.declared.entry.Reply.{Reply}
use Rattle.zone_model.specs.Bare.{bare_reply}
use Rattle.zone_model.specs.Part.{is_local}
use Rattle.zone_model.specs.LocalSteps.{LocalStep}
use Rattle.block_layouts.specs.Fitting.{FitsAt}
use Rattle.local_set.specs.declared.errors.LocalErr.{LocalErr}
use Rattle.local_set.specs.declared.errors.LocalErr.TheVariants as err
use Rattle.local_set.specs.LocalSets.{LocalSet, part_in, table_in, blocks_of}
use Rattle.local_set.specs.Tables.{NotesChange}

-- the entry of a call with this reply, whose lists have no room
abbrev pub entry_of : ℕ → Call → Reply → Entry
entry_of t call reply = record { thread = t; call = call; reply = bare_reply reply }

-- nothing has changed but the room
abbrev pub Same : LocalSet → LocalSet → Type 0
Same old new = new ≡ record old { spare = new.spare }

-- the call was made: it is a local step from the part before to the part after, and its entry waits behind the others
pub record Made (old new : LocalSet) (call : Call) (reply : Reply) : Type 0 where
  pub step : LocalStep (part_in old) old.thread (entry_of old.thread call reply) (part_in new)
  pub few : length old.waiting < old.options.pending
  pub waiting : new.waiting ≡ old.waiting ++ entry_of old.thread call reply ∷ []
  pub thread : new.thread ≡ old.thread
  pub options : new.options ≡ old.options
  pub running : new.ended ≡ false
  pub published : new.published ≡ old.published
  pub notes : NotesChange (table_in old) (table_in new)

-- what a call answers; the first of the refusals that stands is given
abbrev pub Answers : LocalSet → LocalSet → Call → Result Reply LocalErr → Type 0
Answers old new call (Ok reply) = Made old new call reply
Answers old new call (Err err.NotLocal) = (is_local (part_in old) call ≡ false) × Same old new
Answers old new call (Err err.PendingFull) = (is_local (part_in old) call ≡ true) × (old.options.pending ≤ length old.waiting) × Same old new
Answers old new call (Err err.NoMemory) = (is_local (part_in old) call ≡ true) × (length old.waiting < old.options.pending) × Same old new

-- memory is wanting only where there is no room for one more entry
abbrev pub NeedsRoom : LocalSet → Result Reply LocalErr → Type 0
NeedsRoom old (Err err.NoMemory) = old.spare ≡ 0
NeedsRoom old _ = Unit {0}

-- why no entry may wait behind the others
abbrev pub WhyNotReady : LocalSet → LocalErr → Type 0
WhyNotReady old err.NotLocal = ⊥
WhyNotReady old err.PendingFull = old.options.pending ≤ length old.waiting
WhyNotReady old err.NoMemory = (length old.waiting < old.options.pending) × (old.spare ≡ 0)

-- a word of this class at this place of the block, if there is one, is needed
abbrev pub named : ℕ → Class → Option Block → List Named
named at class o = option_map_or (λ b. record { layout = b.layout; at = at; class = class } ∷ []) o []

-- the least misuse of it, where the register may be null
abbrev pub word_misuse : Bool → Option Block → ℕ → Class → Option Misuse
word_misuse null o at class = first_of (
    (null, misuse.NullBlock)
    ∷ (list_any (λ w. nat_le (len_of w.layout) w.at) (named at class o), misuse.NoWord)
    ∷ (list_any (λ w. option_map_or (λ class. not (same_class class w.class)) (class_at w.layout w.at) false) (named at class o), misuse.WrongClass)
    ∷ [])

-- the block, if there is one
abbrev pub block_at : LocalSet → Option BlockId → Option Block
block_at l a = option_and_then (λ id. get (blocks_of l.blocks) id) a

-- there is such a block among these, and a word of it may hold this
abbrev pub MayHold : List (BlockId × Block) → BlockId → ℕ → Word → Type 0
MayHold es id at w = MatchOption (get (blocks_of es) id) ⊥ (λ b. FitsAt b.layout at w)

-- the thread's next id; None where its serials are used
abbrev pub next_of : LocalSet → Option BlockId
next_of l = if l.serials == l.options.serials then None else Some (id_of l.thread l.serials)

-- there is such a block among these, with a word at the place
abbrev pub IsAt : List (BlockId × Block) → BlockId → ℕ → Type 0
IsAt es id at = MatchOption (get (blocks_of es) id) ⊥ (λ b. at < len_of b.layout)
