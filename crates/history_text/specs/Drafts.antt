-- What the lines of a text say, before its last one
use Rattle.std.specs.Prelude.{◌≡◌, ◌≤◌, ◌+◌, ℕ, List, [], ◌∷◌, ◌++◌, All, length, map, Option, Some, None, Result, Ok, Err}
use Rattle.az_base.specs.declared.options.Options.{Options}
use Rattle.az_base.specs.OptionRanges.{IsValid, usual_options}
use Rattle.call_words.specs.declared.argument_err.ArgumentErr.{ArgumentErr}
use Rattle.call_words.specs.declared.argument_err.ArgumentErr.TheVariants as errors
use Rattle.zone_model.specs.declared.entry.Entry.{Entry}
use Rattle.zone_model.specs.declared.entry.Stats.{Stats}
use Rattle.history_text.specs.declared.draft.Draft.{Draft}
use Rattle.history_text.specs.declared.lines.HistoryLine.{HistoryLine}
use Rattle.history_text.specs.declared.lines.HistoryLine.TheVariants as line
use Rattle.call_words.specs.declared.options.OptionName.{OptionName}
use Rattle.call_words.specs.declared.options.OptionName.TheVariants as option
use Rattle.history_text.specs.declared.lines.Setting.{Setting}
use Rattle.call_words.specs.Ranges.{IsNumber, IsSpelled}
use Rattle.history_text.specs.Ranges.{IsEntry, AreStats}
use Rattle.history_text.specs.Lines.{IsLine, bare_line, line_text}
use Rattle.history_text.specs.Texts.{lines_before_end, lines_of_history}

-- the place of an option in their order
abbrev pub place_of : OptionName → ℕ
place_of option.Heap = 0
place_of option.Local = 1
place_of option.Serials = 2
place_of option.Counts = 3
place_of option.Pending = 4

-- the options with one that is set
abbrev pub with_setting : Options → OptionName → ℕ → Options
with_setting o option.Heap n = record o { heap_quanta = n }
with_setting o option.Local n = record o { local_quanta = n }
with_setting o option.Serials n = record o { serials = n }
with_setting o option.Counts n = record o { counts = n }
with_setting o option.Pending n = record o { pending = n }

-- the draft with the line of an option more
abbrev pub with_line : Draft → Setting → Draft
with_line d s = record d { options = with_setting d.options s.name s.number; next = place_of s.name + 1 }

-- the options from this place on are at their defaults
pub record AreUsualFrom (place : ℕ) (o : Options) : Type 0 where
  pub heap : place ≤ 0 → o.heap_quanta ≡ usual_options.heap_quanta
  pub «local» : place ≤ 1 → o.local_quanta ≡ usual_options.local_quanta
  pub serials : place ≤ 2 → o.serials ≡ usual_options.serials
  pub counts : place ≤ 3 → o.counts ≡ usual_options.counts
  pub pending : place ≤ 4 → o.pending ≡ usual_options.pending

-- the place of a line: options in their order, then entries, then the end
abbrev pub line_place : HistoryLine → ℕ
line_place (line.Setting s) = place_of s.name
line_place (line.Entry e) = 5
line_place (line.End count s) = 6

-- the least place of a line after this one
abbrev pub place_after : HistoryLine → ℕ
place_after (line.Setting s) = place_of s.name + 1
place_after (line.Entry e) = 5
place_after (line.End count s) = 7

-- the least place of a line after these
abbrev pub next_place : ℕ → List HistoryLine → ℕ
next_place place [] = place
next_place place (l ∷ lines) = next_place (place_after l) lines

-- the lines so far
abbrev pub lines_so_far : Draft → List HistoryLine
lines_so_far d = lines_before_end d.options d.journal.entries

-- the lines so far can be those of a history
pub record IsDraft (d : Draft) : Type 0 where
  pub options : IsValid d.options
  pub entries : All IsEntry d.journal.entries
  pub spelled : All (λ e. IsSpelled e.call) d.journal.entries
  pub owed : d.journal.owed ≡ 0
  pub unset : AreUsualFrom d.next d.options
  pub next : d.next ≡ next_place 0 (lines_so_far d)

-- no history has this line after these
abbrev pub CannotFollow : List HistoryLine → List ℕ → Type 0
CannotFollow before bytes =
    (o : Options) (history : List Entry) (s : Stats) (front : List HistoryLine) (l : HistoryLine) (back : List HistoryLine)
    → lines_of_history o history s ≡ front ++ l ∷ back → map bare_line front ≡ map bare_line before → ¬ IsLine bytes l

-- one line more
pub record HasLine (old new : Draft) (bytes : List ℕ) : Type 0 where
  pub line : HistoryLine
  pub draft : IsDraft new
  pub lines : lines_so_far new ≡ lines_so_far old ++ line ∷ []
  pub text : bytes ≡ line_text line
  pub entries : length new.journal.entries ≤ length old.journal.entries + 1

-- the last line
pub record IsEndOf (d : Draft) (bytes : List ℕ) (s : Stats) : Type 0 where
  pub stats : AreStats s
  pub count : IsNumber (length d.journal.entries)
  pub text : bytes ≡ line_text (line.End (length d.journal.entries) s)

-- what became of a line: it is one of those before the end, or the end, or can't stand; memory may run out
abbrev pub TakesLine : Draft → Draft → List ℕ → Result (Option Stats) ArgumentErr → Type 0
TakesLine old new bytes (Ok None) = HasLine old new bytes
TakesLine old new bytes (Ok (Some s)) = IsEndOf old bytes s × (new ≡ old)
TakesLine old new bytes (Err errors.Wrong) = CannotFollow (lines_so_far old) bytes
TakesLine old new bytes (Err errors.NoMemory) = Unit {0}
