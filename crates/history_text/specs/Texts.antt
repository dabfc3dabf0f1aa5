-- The text of a history, and where bytes stop to be one
use Rattle.std.specs.Prelude.{◌≡◌, ◌==◌, ◌+◌, ℕ, List, [], ◌∷◌, ◌++◌, All, length, map, true, not, if◌then◌else◌}
use Rattle.std.specs.List.{flat_map, list_all}
use Rattle.az_base.specs.declared.options.Options.{Options}
use Rattle.az_base.specs.OptionRanges.{IsValid, usual_options}
use Rattle.az_words.specs.Lines.{is_feed}
use Rattle.zone_model.specs.declared.entry.Entry.{Entry}
use Rattle.zone_model.specs.declared.entry.Stats.{Stats}
use Rattle.history_text.specs.declared.lines.HistoryLine.{HistoryLine}
use Rattle.history_text.specs.declared.lines.HistoryLine.TheVariants as line
use Rattle.call_words.specs.declared.options.OptionName.{OptionName}
use Rattle.call_words.specs.declared.options.OptionName.TheVariants as option
use Rattle.history_text.specs.declared.lines.Setting.{Setting}
use Rattle.call_words.specs.Ranges.{IsNumber, IsSpelled}
use Rattle.history_text.specs.Ranges.{IsEntry, AreStats}
use Rattle.history_text.specs.Lines.{line_text}

-- an option, where it isn't at its default
abbrev pub unless_usual : OptionName → ℕ → ℕ → List Setting
unless_usual name usual n = if n == usual then [] else record { name = name; number = n } ∷ []

-- the options that aren't at their default, in their order
abbrev pub settings_of : Options → List Setting
settings_of o =
    unless_usual option.Heap usual_options.heap_quanta o.heap_quanta ++ unless_usual option.Local usual_options.local_quanta o.local_quanta
    ++ unless_usual option.Serials usual_options.serials o.serials ++ unless_usual option.Counts usual_options.counts o.counts
    ++ unless_usual option.Pending usual_options.pending o.pending

abbrev pub setting_lines : List Setting → List HistoryLine
setting_lines settings = map line.Setting settings

abbrev pub entry_lines : List Entry → List HistoryLine
entry_lines history = map line.Entry history

-- the lines before the last one: the options, and the entries
abbrev pub lines_before_end : Options → List Entry → List HistoryLine
lines_before_end o history = setting_lines (settings_of o) ++ entry_lines history

-- all lines of a history
abbrev pub lines_of_history : Options → List Entry → Stats → List HistoryLine
lines_of_history o history s = lines_before_end o history ++ line.End (length history) s ∷ []

-- lines, each with its line feed
abbrev pub fed : List (List ℕ) → List ℕ
fed lines = flat_map (λ bytes. bytes ++ 10 ∷ []) lines

-- the text of lines
abbrev pub lines_text : List HistoryLine → List ℕ
lines_text lines = fed (map line_text lines)

-- the text of a history
abbrev pub text_of : Options → List Entry → Stats → List ℕ
text_of o history s = lines_text (lines_of_history o history s)

-- these bytes are the text of a history: its options are valid, its numbers in the ranges of their types, its calls such as the
-- grammar has
pub record IsText (bytes : List ℕ) (o : Options) (history : List Entry) (s : Stats) : Type 0 where
  pub options : IsValid o
  pub entries : All IsEntry history
  pub spelled : All (λ e. IsSpelled e.call) history
  pub count : IsNumber (length history)
  pub stats : AreStats s
  pub text : bytes ≡ text_of o history s

-- the same, where the options are valid and the calls such as the grammar has
abbrev pub IsTextIfSpelled : List ℕ → Options → List Entry → Stats → Type 0
IsTextIfSpelled bytes o history s = IsValid o → All (λ e. IsSpelled e.call) history → IsText bytes o history s

-- no history has these bytes as its text
abbrev pub IsNoText : List ℕ → Type 0
IsNoText bytes = (o : Options) (history : List Entry) (s : Stats) → ¬ IsText bytes o history s

-- the text of some history begins with these bytes
pub record BeginsText (bytes : List ℕ) : Type 0 where
  pub options : Options
  pub history : List Entry
  pub stats : Stats
  pub rest : List ℕ
  pub is : IsText (bytes ++ rest) options history stats

-- no byte ends a line
abbrev pub HasNoFeed : List ℕ → Type 0
HasNoFeed bytes = list_all (λ b. not (is_feed b)) bytes ≡ true

-- no history has these bytes as its text, and the line of this number is the first one that can't stand:
-- with the lines before it some text begins, and with these and this one none
pub record IsWrongAt (bytes : List ℕ) (n : ℕ) : Type 0 where
  pub before : List (List ℕ)
  pub after : List ℕ
  pub cut : bytes ≡ fed before ++ after
  pub lines : All HasNoFeed before
  pub place : n ≡ length before + 1
  pub can : BeginsText (fed before)
  pub cannot : (piece more : List ℕ) → HasNoFeed piece → after ≡ piece ++ 10 ∷ more → ¬ BeginsText (fed before ++ piece ++ 10 ∷ [])
  pub none : IsNoText bytes
