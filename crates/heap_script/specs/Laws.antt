-- What is read of a script, said apart from how
use Rattle.std.specs.Prelude.{◌≡◌, ◌↔◌, ◌⊎◌, ℕ, List, [], Ok, Err}
use Rattle.heap_script.specs.declared.cause.Cause.{Cause}
use Rattle.heap_script.specs.declared.line.Line.{Line}
use Rattle.heap_script.specs.declared.script.Script.{Script}
use Rattle.heap_script.specs.declared.setting.Setting.{Setting}
use Rattle.heap_script.specs.Lines.{IsLine, SettingAt}
use Rattle.heap_script.specs.Refusals.{LineCause, SettingCause, Refusal}
use Rattle.heap_script.specs.Scripts.{IsScript, IsRefused, IsOnlyScript, IsOnlyRefusal, CanBePlayed}
use Rattle.heap_script.specs.Reading.Scripts.{line_of, setting_of, script_of}

-- exactly the call lines of the grammar are read, each as what it says
abbrev pub LinesAreRead : Type 0
LinesAreRead = (words : List (List ℕ)) (line : Line) → (line_of words ≡ Ok line) ↔ IsLine words line

-- a call line is refused exactly where it lacks what the grammar wants, with that cause
abbrev pub LinesAreRefused : Type 0
LinesAreRefused = (words : List (List ℕ)) (cause : Cause) → (line_of words ≡ Err cause) ↔ LineCause words cause

-- after option exactly an option and a number in its range are read
abbrev pub OptionsAreRead : Type 0
OptionsAreRead = (words : List (List ℕ)) (set : Setting) → (setting_of words ≡ Ok set) ↔ SettingAt words set []

-- an option line is refused exactly where it lacks what the grammar wants, with that cause
abbrev pub OptionsAreRefused : Type 0
OptionsAreRefused = (words : List (List ℕ)) (cause : Cause) → (setting_of words ≡ Err cause) ↔ SettingCause words cause

-- exactly the scripts of the grammar are read, each as what it says
abbrev pub ScriptsAreRead : Type 0
ScriptsAreRead = (bytes : List ℕ) (script : Script) → (script_of bytes ≡ Ok script) ↔ IsScript bytes script

-- bytes are refused exactly at their first line that has a cause, with the first one of that line
abbrev pub ScriptsAreRefused : Type 0
ScriptsAreRefused = (bytes : List ℕ) (refusal : Refusal) → (script_of bytes ≡ Err refusal) ↔ IsRefused bytes refusal

-- each text is one script, or is refused for one reason, and never both
abbrev pub TextsHaveOneReading : Type 0
TextsHaveOneReading = (bytes : List ℕ) → ((script : Script) × IsOnlyScript bytes script) ⊎ ((refusal : Refusal) × IsOnlyRefusal bytes refusal)

-- a script can be played
abbrev pub ScriptsCanBePlayed : Type 0
ScriptsCanBePlayed = (bytes : List ℕ) (script : Script) → IsScript bytes script → CanBePlayed script
