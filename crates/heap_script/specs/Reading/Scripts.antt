-- What a script says, or the first cause of its first line that has one, as it is read
use Rattle.std.specs.Prelude.{◌≡◌, ℕ, ◌+◌, List, [], ◌∷◌, length, nat_lt, if◌then◌else◌, Bool, false, Option, Some, None, Result, Ok, Err, not}
use Rattle.std.specs.Str.{is_utf8}
use Rattle.az_base.specs.OptionRanges.{usual_options}
use Rattle.az_words.specs.Lines.{lines_of}
use Rattle.az_words.specs.Words.{words_of}
use Rattle.az_words.specs.Numerals.{number_in}
use Rattle.call_words.specs.Names.{name_of}
use Rattle.call_words.specs.Options.{option_of, least}
use Rattle.call_words.specs.Reading.Words.{thread_of}
use Rattle.call_words.specs.Reading.Calls.{next_as, act_at}
use Rattle.heap_script.specs.declared.cause.Cause.{Cause}
use Rattle.heap_script.specs.declared.cause.Cause.TheVariants.{NotText, LineTooLong, TooManyLines, NoThread, NoCall, WrongArgument, TooManyArguments}
use Rattle.heap_script.specs.declared.cause.LineErr.{LineErr}
use Rattle.heap_script.specs.declared.cause.LineErr.TheVariants as errors
use Rattle.heap_script.specs.declared.cause.ScriptErr.{ScriptErr}
use Rattle.heap_script.specs.declared.cause.ScriptErr.TheVariants as scripts
use Rattle.heap_script.specs.declared.entries.Entry.{Entry}
use Rattle.heap_script.specs.declared.entries.Entry.TheVariants as entry
use Rattle.heap_script.specs.declared.line.Line.{Line}
use Rattle.heap_script.specs.declared.script.Script.{Script}
use Rattle.heap_script.specs.declared.setting.Setting.{Setting}
use Rattle.heap_script.specs.Settings.{largest, setting_to}
use Rattle.heap_script.specs.Lines.{is_skipped, called_after}
use Rattle.heap_script.specs.Refusals.{after_option, Refusal}
use Rattle.heap_script.specs.Scripts.{options_after, calls_of}

-- the second step with what the first one gave, or the first one's error
infixl 10 ◌>>=◌
abbrev pub ◌>>=◌ : {A B E : Type 0} → Result A E → (A → Result B E) → Result B E
(Ok x) >>= f = f x
(Err e) >>= f = Err e

-- what a function answered is what reading gives, unless memory ran out
abbrev pub Gives : {X : Type 0} → Result X LineErr → Result X Cause → Type 0
Gives (Ok x) read = read ≡ Ok x
Gives (Err (errors.Cause cause)) read = read ≡ Err cause
Gives (Err errors.NoMemory) read = Unit {0}

-- what was read, or this cause
abbrev pub or_cause : {A : Type 0} → Cause → Option A → Result A Cause
or_cause cause None = Err cause
or_cause cause (Some x) = Ok x

-- no word is left
unfoldable pub no_more : List (List ℕ) → Result (Unit {0}) Cause
no_more [] = Ok tt
no_more (word ∷ words) = Err TooManyArguments

-- all that was read, where no word is left
abbrev pub whole : {A : Type 0} → Result (A × List (List ℕ)) Cause → Result A Cause
whole read = do
  x ← read
  end ← no_more x.1
  Ok x.0

-- a call line, and the words after it
unfoldable pub line_at : List (List ℕ) → Result (Line × List (List ℕ)) Cause
line_at words = do
  thread ← or_cause NoThread (next_as thread_of words)
  name ← or_cause NoCall (next_as name_of thread.1)
  act ← or_cause WrongArgument (act_at 8 name.0 name.1)
  Ok (record { thread = thread.0; act = act.0 }, act.1)

-- a call line, and no more
unfoldable pub line_of : List (List ℕ) → Result Line Cause
line_of words = whole (line_at words)

-- an option and a number in its range, and no more
unfoldable pub setting_of : List (List ℕ) → Result Setting Cause
setting_of words = do
  name ← or_cause NoCall (next_as option_of words)
  number ← or_cause WrongArgument (next_as (number_in (least name.0) (largest name.0)) name.1)
  end ← no_more number.1
  Ok (setting_to name.0 number.0)

-- an option line where there are words after option, and else a call line
unfoldable pub entry_by : List (List ℕ) → Option (List (List ℕ)) → Result Entry Cause
entry_by words (Some others) = setting_of others >>= λ setting. Ok (entry.Set setting)
entry_by words None = line_of words >>= λ line. Ok (entry.Call line)

-- a line that isn't refused as a whole
abbrev pub entry_at : Bool → List (List ℕ) → Result Entry Cause
entry_at called words = if is_skipped words then Ok entry.Nothing else entry_by words (after_option called words)

-- what the line of this number says, where a call line came before or none did
unfoldable pub entry_of : ℕ → Bool → List ℕ → Result Entry Cause
entry_of n called line =
    if not (is_utf8 line) then Err NotText
    else if nat_lt 8192 (length line) then Err LineTooLong
    else if nat_lt 65536 n then Err TooManyLines
    else entry_at called (words_of line)

-- a cause at this line
abbrev pub at_line : {A : Type 0} → ℕ → Result A Cause → Result A Refusal
at_line n (Ok x) = Ok x
at_line n (Err c) = Err (record { cause = c; line = n })

-- what the lines from this number on say, where a call line came before or none did
unfoldable pub entries_from : ℕ → Bool → List (List ℕ) → Result (List Entry) Refusal
entries_from n called [] = Ok []
entries_from n called (line ∷ lines) = do
  first ← at_line n (entry_of n called line)
  others ← entries_from (n + 1) (called_after called first) lines
  Ok (first ∷ others)

-- what the lines say, as a script
abbrev pub script_from : List Entry → Script
script_from entries = record { options = options_after usual_options entries; lines = calls_of entries }

-- the script that the bytes are, or why they are none
unfoldable pub script_of : List ℕ → Result Script Refusal
script_of bytes = entries_from 1 false (lines_of bytes) >>= λ entries. Ok (script_from entries)

-- what was answered is what reading gives, unless memory ran out
abbrev pub IsRead : List ℕ → Result Script ScriptErr → Type 0
IsRead bytes (Ok script) = script_of bytes ≡ Ok script
IsRead bytes (Err (scripts.Refused cause line)) = script_of bytes ≡ Err (record { cause = cause; line = line })
IsRead bytes (Err scripts.NoMemory) = Unit {0}
