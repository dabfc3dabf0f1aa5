-- What the words of a line say, as they are read. How the words are spelled is looked at after
use Rattle.std.specs.Prelude.{◌≡◌, ◌&&◌, ◌==◌, ℕ, List, [], ◌∷◌, nat_le, Option, Some, None, Result, Ok, Err, codes, if◌then◌else◌}
use Rattle.std.specs.Str.{bytes_eq}
use Rattle.az_base.specs.declared.block_id.BlockId.{BlockId}
use Rattle.az_base.specs.declared.misuse.Misuse.{Misuse}
use Rattle.az_base.specs.declared.misuse.Misuse.TheVariants as misuse
use Rattle.az_words.specs.Numerals.{number_in}
use Rattle.zone_model.specs.declared.act.Act.{Act}
use Rattle.zone_model.specs.declared.act.Act.TheVariants as act
use Rattle.zone_model.specs.declared.call.Call.{Call}
use Rattle.zone_model.specs.declared.call.Call.TheVariants as call
use Rattle.zone_model.specs.declared.entry.Entry.{Entry}
use Rattle.zone_model.specs.declared.entry.Reply.{Reply}
use Rattle.zone_model.specs.declared.entry.Reply.TheVariants as reply
use Rattle.zone_model.specs.declared.entry.Stats.{Stats}
use Rattle.call_words.specs.declared.argument_err.ArgumentErr.{ArgumentErr}
use Rattle.call_words.specs.declared.argument_err.ArgumentErr.TheVariants as errors
use Rattle.call_words.specs.declared.names.CallName.{CallName}
use Rattle.call_words.specs.Names.{name_of}
use Rattle.call_words.specs.Reading.Words.{thread_of, block_of}
use Rattle.call_words.specs.Reading.Calls.{◌>>=◌, next_as, act_at}
use Rattle.history_text.specs.declared.lines.HistoryLine.{HistoryLine}
use Rattle.history_text.specs.declared.lines.HistoryLine.TheVariants as line
use Rattle.call_words.specs.declared.options.OptionName.{OptionName}
use Rattle.history_text.specs.declared.lines.Setting.{Setting}
use Rattle.history_text.specs.declared.names.ReplyName.{ReplyName}
use Rattle.history_text.specs.declared.names.ReplyName.TheVariants as names
use Rattle.history_text.specs.declared.names.StepName.{StepName}
use Rattle.history_text.specs.declared.names.StepName.TheVariants as steps
use Rattle.call_words.specs.Options.{option_of, least}
use Rattle.history_text.specs.Lines.{most}
use Rattle.history_text.specs.Names.{step_of, mode_of, reply_name_of}

-- what a function answered, seen by view, is what reading gives, unless memory ran out
abbrev pub Gives : {X Y : Type 0} → (X → Y) → Result X ArgumentErr → Option Y → Type 0
Gives view (Ok x) read = read ≡ Some (view x)
Gives view (Err errors.Wrong) read = read ≡ None
Gives view (Err errors.NoMemory) read = Unit {0}

-- the same of the first words, with the words that are left
abbrev pub Takes : {X Y : Type 0} → (X → Y) → Result X ArgumentErr → List (List ℕ) → Option (Y × List (List ℕ)) → Type 0
Takes view (Ok x) left read = read ≡ Some (view x, left)
Takes view (Err errors.Wrong) left read = read ≡ None
Takes view (Err errors.NoMemory) left read = Unit {0}

-- a step of a collection, or the end of a thread
unfoldable pub step_by : StepName → List (List ℕ) → Option (Call × List (List ℕ))
step_by steps.Begin words = do
  mode ← next_as mode_of words
  Some (call.Begin mode.0, mode.1)
step_by steps.Condemn words = Some (call.Condemn, words)
step_by steps.Finalise words = Some (call.Finalise, words)
step_by steps.Reclaim words = Some (call.Reclaim, words)
step_by steps.Leave words = Some (call.Leave, words)

-- a call, where it isn't a whole collection
abbrev pub only_call : Act → List (List ℕ) → Option (Call × List (List ℕ))
only_call (act.Call c) words = Some (c, words)
only_call (act.Collect mode) words = None

-- a call of this name
unfoldable pub call_by : CallName → List (List ℕ) → Option (Call × List (List ℕ))
call_by name words = do
  asked ← act_at 8 name words
  only_call asked.0 asked.1

-- a step where the word names one
abbrev pub step_named : Option StepName → List (List ℕ) → Option (Call × List (List ℕ))
step_named None words = None
step_named (Some name) words = step_by name words

-- a call where the word names one, and else a step
abbrev pub call_named : Option CallName → List ℕ → List (List ℕ) → Option (Call × List (List ℕ))
call_named (Some name) word words = call_by name words
call_named None word words = step_named (step_of word) words

-- a call with its arguments
unfoldable pub call_at : List (List ℕ) → Option (Call × List (List ℕ))
call_at [] = None
call_at (word ∷ words) = call_named (name_of word) word words

-- this word
unfoldable pub fixed_at : List ℕ → List (List ℕ) → Option (Unit {0} × List (List ℕ))
fixed_at text [] = None
fixed_at text (word ∷ words) = if bytes_eq word text then Some (tt, words) else None

-- any number of 64 bits
abbrev pub number_at : List (List ℕ) → Option (ℕ × List (List ℕ))
number_at words = next_as (number_in 0 18446744073709551615) words

-- a number behind its name
unfoldable pub named_at : List ℕ → List (List ℕ) → Option (ℕ × List (List ℕ))
named_at name words = do
  named ← fixed_at name words
  number_at named.1

-- statistics, behind the word blocks
unfoldable pub stats_at : List (List ℕ) → Option (Stats × List (List ℕ))
stats_at words = do
  blocks ← number_at words
  quanta ← named_at (codes "quanta") blocks.1
  retained ← named_at (codes "retained") quanta.1
  weak ← named_at (codes "weak") retained.1
  assocs ← named_at (codes "assocs") weak.1
  Some (record { blocks = blocks.0; quanta = quanta.0; retained = retained.0; weak = weak.0; assocs = assocs.0 }, assocs.1)

-- an id before others
abbrev pub onto_ids : Option BlockId → Option (List BlockId × List (List ℕ)) → Option (List BlockId × List (List ℕ))
onto_ids None others = None
onto_ids (Some id) others = others >>= λ more. Some (id ∷ more.0, more.1)

-- ids up to the end, or to the word kept
abbrev pub ids_at : List (List ℕ) → Option (List BlockId × List (List ℕ))
ids_at [] = Some ([], [])
ids_at (word ∷ words) = if bytes_eq word (codes "kept") then Some ([], word ∷ words) else onto_ids (block_of word) (ids_at words)

-- the word none, or ids
unfoldable pub list_at : List (List ℕ) → Option (List BlockId × List (List ℕ))
list_at [] = None
list_at (word ∷ words) = if bytes_eq word (codes "none") then Some ([], words) else ids_at (word ∷ words)

-- what was reclaimed, and after one word more what was kept
unfoldable pub settled_by : List BlockId → List (List ℕ) → Option Reply
settled_by gone [] = Some (reply.Reclaimed (record { list = gone; spare = 0 }))
settled_by gone (word ∷ words) = do
  kept ← list_at words
  Some (reply.Settled (record { list = gone; spare = 0 }) (record { list = kept.0; spare = 0 }))

-- the misuse of this number
unfoldable pub misuse_of : ℕ → Option Misuse
misuse_of n =
    if n == 1 then Some misuse.NullBlock else if n == 2 then Some misuse.NoWord else if n == 3 then Some misuse.WrongClass else if n == 4 then Some misuse.OverRelease
    else if n == 5 then Some misuse.CountFull else if n == 6 then Some misuse.SerialsUsed else if n == 7 then Some misuse.ZoneFull else if n == 8 then Some misuse.NotHeld
    else None

-- the rest of a reply of this name
unfoldable pub reply_by : ReplyName → List (List ℕ) → Option Reply
reply_by names.Done words = Some reply.Done
reply_by names.Null words = Some (reply.Block None)
reply_by names.Busy words = Some reply.Busy
reply_by names.Begun words = Some reply.Begun
reply_by names.Condemned words = do
  ids ← list_at words
  Some (reply.Condemned (record { list = ids.0; spare = 0 }))
reply_by names.Finalised words = do
  id ← next_as block_of words
  Some (reply.Finalised id.0)
reply_by names.Reclaimed words = do
  gone ← list_at words
  settled_by gone.0 gone.1
reply_by names.Stats words = do
  stats ← stats_at words
  Some (reply.Stats stats.0)
reply_by names.Misuse words = do
  number ← number_at words
  misuse ← misuse_of number.0
  Some (reply.Misuse misuse)

-- a number, and else an id
unfoldable pub plain_reply : Option ℕ → List (List ℕ) → Option Reply
plain_reply (Some n) words = Some (reply.Number n)
plain_reply None words = do
  id ← next_as block_of words
  Some (reply.Block (Some id.0))

-- a reply by its first word
abbrev pub reply_named : Option ReplyName → List ℕ → List (List ℕ) → Option Reply
reply_named (Some name) word words = reply_by name words
reply_named None word words = plain_reply (number_in 0 18446744073709551615 word) (word ∷ words)

-- a reply
unfoldable pub reply_of : List (List ℕ) → Option Reply
reply_of [] = None
reply_of (word ∷ words) = reply_named (reply_name_of word) word words

-- an entry: a thread, its call, and the reply
unfoldable pub entry_of : List (List ℕ) → Option Entry
entry_of words = do
  thread ← next_as thread_of words
  call ← call_at thread.1
  equals ← fixed_at (codes "=") call.1
  reply ← reply_of equals.1
  Some (record { thread = thread.0; call = call.0; reply = reply })

-- the number, where an option line may say it
abbrev pub setting_to : OptionName → ℕ → Option Setting
setting_to name n = if nat_le (least name) n && nat_le n (most name) then Some (record { name = name; number = n }) else None

-- an option and its number, behind the word option
unfoldable pub setting_of : List (List ℕ) → Option Setting
setting_of words = do
  name ← next_as option_of words
  number ← number_at name.1
  setting_to name.0 number.0

-- the last line, behind the word end
unfoldable pub end_of : List (List ℕ) → Option (ℕ × Stats)
end_of words = do
  count ← named_at (codes "entries") words
  blocks ← fixed_at (codes "blocks") count.1
  stats ← stats_at blocks.1
  Some (count.0, stats.0)

-- what the words of a line say
unfoldable pub line_of : List (List ℕ) → Option HistoryLine
line_of [] = None
line_of (word ∷ words) =
    if bytes_eq word (codes "option") then (setting_of words >>= λ setting. Some (line.Setting setting))
    else if bytes_eq word (codes "end") then (end_of words >>= λ end. Some (line.End end.0 end.1))
    else (entry_of (word ∷ words) >>= λ entry. Some (line.Entry entry))
