-- How a script is printed: the options that aren't usual, each in a line of its own, and then its call lines
use Rattle.std.specs.Prelude.{◌≤◌, ℕ, List, ◌∷◌, ◌++◌, length, map, All}
use Rattle.std.specs.List.{flat_map}
use Rattle.std.specs.Fmt.{decimal}
use Rattle.az_base.specs.OptionRanges.{IsValid}
use Rattle.call_words.specs.Spacing.{spaced, fed_line}
use Rattle.call_words.specs.Options.{options_lines}
use Rattle.call_words.specs.Ranges.{IsThread, ActFits}
use Rattle.call_words.specs.Words.{act_words}
use Rattle.heap_script.specs.declared.line.Line.{Line}
use Rattle.heap_script.specs.declared.script.Script.{Script}
use Rattle.heap_script.specs.Scripts.{IsScript, AllNamed}

-- a call line
abbrev pub line_words : Line → List (List ℕ)
line_words line = decimal line.thread ∷ act_words line.act

-- all lines of a script, as words
abbrev pub script_lines : Script → List (List (List ℕ))
script_lines script = options_lines script.options ++ map line_words script.lines

-- a printed script
unfoldable pub script_text : Script → List ℕ
script_text script = flat_map fed_line (options_lines script.options) ++ flat_map (λ line. fed_line (line_words line)) script.lines

-- a line names a thread that there is, numbers in their ranges, and what the grammar has
abbrev pub LineFits : Line → Type 0
LineFits line = IsThread line.thread × ActFits line.act

-- a script that keeps the limits of scripts: its numbers are in their ranges, it asks for what scripts have words for,
-- and as it is printed it has not too many lines, and none too long
pub record KeepsLimits (script : Script) : Type 0 where
  pub options : IsValid script.options
  pub numbers : All LineFits script.lines
  pub named : AllNamed script.lines
  pub few : length (script_lines script) ≤ 65536
  pub short : All (λ words. length (spaced words) ≤ 8192) (script_lines script)

-- a printed script that keeps the limits of scripts is that script
abbrev pub PrintedScriptsAreRead : Type 0
PrintedScriptsAreRead = (script : Script) → KeepsLimits script → IsScript (script_text script) script
