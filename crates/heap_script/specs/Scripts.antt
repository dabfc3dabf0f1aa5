-- What a script is, what refuses a text that is none, and what is known of a script
use Rattle.std.specs.Prelude.{◌≡◌, ◌≤◌, ◌+◌, ℕ, Bool, true, false, List, [], ◌∷◌, ◌++◌, length, All, Result, Ok, Err}
use Rattle.az_base.specs.declared.numbers.TheConstants.{MOST_THREADS}
use Rattle.az_base.specs.declared.options.Options.{Options}
use Rattle.az_base.specs.OptionRanges.{usual_options, IsValid}
use Rattle.az_words.specs.Lines.{lines_of}
use Rattle.call_words.specs.Ranges.{IsSpelledAct, IsNamed}
use Rattle.heap_script.specs.declared.entries.Entry.{Entry}
use Rattle.heap_script.specs.declared.entries.Entry.TheVariants as entry
use Rattle.heap_script.specs.declared.line.Line.{Line}
use Rattle.heap_script.specs.declared.script.Script.{Script}
use Rattle.heap_script.specs.declared.cause.ScriptErr.{ScriptErr}
use Rattle.heap_script.specs.declared.cause.ScriptErr.TheVariants as errors
use Rattle.heap_script.specs.Settings.{with_setting}
use Rattle.heap_script.specs.Lines.{SayLines}
use Rattle.heap_script.specs.Refusals.{Refusal, HasCause}

-- the options after a line
abbrev pub with_entry : Options → Entry → Options
with_entry o (entry.Set setting) = with_setting o setting
with_entry o e = o

-- the options after these lines: of two lines for one option the later counts
abbrev pub options_after : Options → List Entry → Options
options_after o [] = o
options_after o (e ∷ entries) = options_after (with_entry o e) entries

-- a call line before others
abbrev pub onto_calls : Entry → List Line → List Line
onto_calls (entry.Call line) lines = line ∷ lines
onto_calls e lines = lines

-- the call lines among these
abbrev pub calls_of : List Entry → List Line
calls_of [] = []
calls_of (e ∷ entries) = onto_calls e (calls_of entries)

-- the bytes are this script
pub record IsScript (bytes : List ℕ) (script : Script) : Type 0 where
  pub entries : List Entry
  pub said : SayLines (lines_of bytes) entries
  pub options : script.options ≡ options_after usual_options entries
  pub lines : script.lines ≡ calls_of entries

-- a call line came
abbrev pub is_called : List Line → Bool
is_called [] = false
is_called (line ∷ lines) = true

-- a line has this cause, and the lines before it have none
pub record IsRefused (bytes : List ℕ) (refusal : Refusal) : Type 0 where
  pub before : List (List ℕ)
  pub line : List ℕ
  pub after : List (List ℕ)
  pub entries : List Entry
  pub cut : lines_of bytes ≡ before ++ line ∷ after
  pub number : refusal.line ≡ length before + 1
  pub said : SayLines before entries
  pub cause : HasCause refusal.line (is_called (calls_of entries)) line refusal.cause

-- the bytes are this script alone, and aren't refused
pub record IsOnlyScript (bytes : List ℕ) (script : Script) : Type 0 where
  pub is : IsScript bytes script
  pub only : (other : Script) → IsScript bytes other → other ≡ script
  pub not_refused : (refusal : Refusal) → ¬ IsRefused bytes refusal

-- the bytes are refused for this alone, and are no script
pub record IsOnlyRefusal (bytes : List ℕ) (refusal : Refusal) : Type 0 where
  pub is : IsRefused bytes refusal
  pub only : (other : Refusal) → IsRefused bytes other → other ≡ refusal
  pub no_script : (script : Script) → ¬ IsScript bytes script

-- what a text is found to be: a script, or refused; memory may run out
abbrev pub Parses : List ℕ → Result Script ScriptErr → Type 0
Parses bytes (Ok script) = IsScript bytes script
Parses bytes (Err (errors.Refused cause line)) = IsRefused bytes (record { cause = cause; line = line })
Parses bytes (Err errors.NoMemory) = Unit {0}

-- the line is of a thread that there is
abbrev pub IsThere : Line → Type 0
IsThere line = (1 ≤ line.thread) × (line.thread ≤ MOST_THREADS)

-- each line is of a thread that there is
abbrev pub AllThreads : List Line → Type 0
AllThreads lines = All IsThere lines

-- each line asks for what scripts have a name for: no step of a collection by itself, and no end of a thread
abbrev pub AllNamed : List Line → Type 0
AllNamed lines = All (λ line. IsNamed line.act) lines

-- each line asks for what the grammar has: a layout that blocks may have, and actions of objects alone
abbrev pub AllSpelled : List Line → Type 0
AllSpelled lines = All (λ line. IsSpelledAct line.act) lines

-- the options are valid, and each line asks a thread that there is for what scripts have a name for, as the grammar has it
pub record CanBePlayed (script : Script) : Type 0 where
  pub options : IsValid script.options
  pub threads : AllThreads script.lines
  pub named : AllNamed script.lines
  pub spelled : AllSpelled script.lines
