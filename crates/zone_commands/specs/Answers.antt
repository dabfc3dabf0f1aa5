-- What each answer of the program says
use Rattle.std.specs.Prelude.{◌≡◌, ◌⊎◌, ◌+◌, ℕ, ◌≤◌, ◌<◌, List, [], ◌∷◌, ◌++◌, length, Option, Some, Result, Ok, Err, codes}
use Rattle.std.specs.Io.KnownBytes.{Consumes, IsAtEnd}
use Rattle.std.specs.Fmt.{decimal}
use Rattle.az_outside.specs.Causes.{Rose}
use Rattle.az_outside.specs.Bytes.{GrewByFront, Takes}
use Rattle.zone_model.specs.declared.entry.Entry.{Entry}
use Rattle.zone_model.specs.declared.entry.Stats.{Stats}
use Rattle.heap_script.specs.declared.cause.Cause.{Cause}
use Rattle.heap_script.specs.declared.cause.Cause.TheVariants as causes
use Rattle.heap_script.specs.declared.script.Script.{Script}
use Rattle.heap_script.specs.Refusals.{Refusal}
use Rattle.heap_script.specs.Scripts.{IsScript, IsRefused}
use Rattle.zone_commands.specs.declared.status.Status.{Status}
use Rattle.zone_commands.specs.declared.status.Status.TheVariants as status
use Rattle.zone_commands.specs.declared.status.Stop.{Stop}
use Rattle.zone_commands.specs.declared.status.Stop.TheVariants as stops
use Rattle.play_core.specs.Playing.{requests_of}
use Rattle.play_order.specs.Play.{IsPlayOf}
use Rattle.zone_history.specs.Histories.{IsHistoryOf}
use Rattle.history_text.specs.Texts.{IsText}

-- the source gave these bytes, and none is left
pub record GaveAll (old new : Option (List ℕ)) (bytes : List ℕ) : Type 0 where
  pub consumed : Consumes old new bytes
  pub end : IsAtEnd new

-- the bytes are a script, and the text is that of a history of it, in the order of a play: one of the texts that are read
pub record IsPlayed (bytes text : List ℕ) : Type 0 where
  pub script : Script
  pub history : List Entry
  pub stats : Stats
  pub parsed : IsScript bytes script
  pub played : IsHistoryOf script.options (requests_of script) history stats
  pub ordered : IsPlayOf script.options (requests_of script) history stats
  pub fixed : IsText text script.options history stats

-- the bytes are a script, and the text is that of a history of it: one of the texts that are read
pub record IsRun (bytes text : List ℕ) : Type 0 where
  pub script : Script
  pub history : List Entry
  pub stats : Stats
  pub parsed : IsScript bytes script
  pub ran : IsHistoryOf script.options (requests_of script) history stats
  pub fixed : IsText text script.options history stats

-- the bytes are a script
abbrev pub ForScripts : (List ℕ → List ℕ → Type 0) → Type 0
ForScripts Of = (bytes text : List ℕ) → Of bytes text → (script : Script) × IsScript bytes script

-- all was read, at most so many bytes, and the text of what the command makes of them was written
pub record Written (Of : List ℕ → List ℕ → Type 0) (limit : ℕ) (old new : Option (List ℕ)) (grew : List ℕ → Type 0) : Type 0 where
  pub bytes : List ℕ
  pub text : List ℕ
  pub read : GaveAll old new bytes
  pub short : length bytes ≤ limit
  pub made : Of bytes text
  pub written : grew text

-- the same, but only a front of the text was written
pub record WrittenPart (Of : List ℕ → List ℕ → Type 0) (old new : Option (List ℕ)) (grew : List ℕ → Type 0) : Type 0 where
  pub bytes : List ℕ
  pub text : List ℕ
  pub read : GaveAll old new bytes
  pub made : Of bytes text
  pub written : GrewByFront grew text

-- all was read, at most so many bytes, and it is no script, for this reason
pub record Refuses (limit : ℕ) (old new : Option (List ℕ)) (cause : Cause) (line : ℕ) : Type 0 where
  pub bytes : List ℕ
  pub read : GaveAll old new bytes
  pub short : length bytes ≤ limit
  pub parsed : IsRefused bytes (record { cause = cause; line = line })

-- this text was written, or a front of it where the sink failed
abbrev pub Says : ℕ → ℕ → (List ℕ → Type 0) → List ℕ → Type 0
Says before now grew text = grew text ⊎ (GrewByFront grew text × Rose before now)

-- the name of a cause
abbrev pub cause_text : Cause → List ℕ
cause_text causes.NotText = codes "NotText"
cause_text causes.LineTooLong = codes "LineTooLong"
cause_text causes.TooManyLines = codes "TooManyLines"
cause_text causes.NoThread = codes "NoThread"
cause_text causes.NoCall = codes "NoCall"
cause_text causes.WrongArgument = codes "WrongArgument"
cause_text causes.TooManyArguments = codes "TooManyArguments"

-- what is said of a script that is refused: its first line that has a cause, and its first cause
unfoldable pub refusal_text : Cause → ℕ → List ℕ
refusal_text cause line = codes "autozone: line " ++ decimal line ++ codes ": " ++ cause_text cause ++ 10 ∷ []

-- what is said of another stop
abbrev pub told : List ℕ → List ℕ
told text = codes "autozone: " ++ text ++ 10 ∷ []

-- a fact of the refusal, where there is one
abbrev pub IfRefused : {T : Type 0} → Result T Stop → (Cause → ℕ → Type 0) → Type 0
IfRefused (Err (stops.Refused cause line)) P = P cause line
IfRefused _ P = Unit {0}

-- the status of what stopped a command, and what was said
abbrev pub ToldStop : Stop → Status → (List ℕ → Type 0) → ℕ → ℕ → Type 0
ToldStop (stops.Refused cause line) s said before now =
    ((s ≡ status.ScriptRefused) × Says before now said (refusal_text cause line)) ⊎ ((s ≡ status.NoMemory) × Says before now said (told (codes "no memory")))
ToldStop stops.ReadFault s said before now = (s ≡ status.ReadFault) × Says before now said (told (codes "read fault"))
ToldStop stops.WriteFault s said before now = (s ≡ status.WriteFault) × Says before now said (told (codes "write fault"))
ToldStop stops.NoMemory s said before now = (s ≡ status.NoMemory) × Says before now said (told (codes "no memory"))
ToldStop stops.TooLong s said before now = (s ≡ status.TooLong) × Says before now said (told (codes "too long"))

-- the same where nothing may have stopped it
abbrev pub Told : Result Unit Stop → Status → (List ℕ → Type 0) → ℕ → ℕ → Type 0
Told (Ok u) s said before now = (s ≡ status.Done) × said []
Told (Err stop) s said before now = ToldStop stop s said before now

-- the bytes alone determine the status: TooLong past the limit, and else by whether they are a script
pub record IsAnswerTo (limit : ℕ) (bytes : List ℕ) (s : Status) : Type 0 where
  pub long : limit < length bytes → s ≡ status.TooLong
  pub played : (script : Script) → length bytes ≤ limit → IsScript bytes script → s ≡ status.Done
  pub refused : (refusal : Refusal) → length bytes ≤ limit → IsRefused bytes refusal → s ≡ status.ScriptRefused

-- how a command that reads a script ended, which makes such texts of bytes: what each status says of the source, of the output and of the error output, before and after
pub record Ended (Of : List ℕ → List ℕ → Type 0) (limit : ℕ) (s : Status) (old new : Option (List ℕ)) (reads_old reads_new : ℕ) (grew : List ℕ → Type 0) (writes_old writes_new : ℕ) (said : List ℕ → Type 0) (says_old says_new : ℕ) : Type 0 where
  pub done : s ≡ status.Done → Written Of limit old new grew × said []
  pub refused : s ≡ status.ScriptRefused → (cause : Cause) × (line : ℕ) × Refuses limit old new cause line × grew [] × Says says_old says_new said (refusal_text cause line)
  pub read : s ≡ status.ReadFault → Rose reads_old reads_new × grew [] × Says says_old says_new said (told (codes "read fault"))
  pub too_long : s ≡ status.TooLong → Takes (limit + 1) old new × grew [] × Says says_old says_new said (told (codes "too long"))
  pub write : s ≡ status.WriteFault → Rose writes_old writes_new × WrittenPart Of old new grew × Says says_old says_new said (told (codes "write fault"))
  pub memory : s ≡ status.NoMemory → grew [] × Says says_old says_new said (told (codes "no memory"))
  -- where nothing fails, the bytes alone determine the status, unless memory runs out
  pub complete : (given : List ℕ) → old ≡ Some given → ¬ Rose reads_old reads_new → ¬ Rose writes_old writes_new → IsAnswerTo limit given s ⊎ (s ≡ status.NoMemory)
