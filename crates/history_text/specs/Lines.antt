-- The lines of a history
use Rattle.std.specs.Prelude.{◌≡◌, ◌≤◌, ℕ, List, Result, Ok, Err}
use Rattle.zone_model.specs.Bare.{bare_entry}
use Rattle.call_words.specs.declared.argument_err.ArgumentErr.{ArgumentErr}
use Rattle.call_words.specs.declared.argument_err.ArgumentErr.TheVariants as errors
use Rattle.history_text.specs.declared.lines.HistoryLine.{HistoryLine}
use Rattle.history_text.specs.declared.lines.HistoryLine.TheVariants as line
use Rattle.call_words.specs.declared.options.OptionName.{OptionName}
use Rattle.call_words.specs.declared.options.OptionName.TheVariants as option
use Rattle.history_text.specs.declared.lines.Setting.{Setting}
use Rattle.call_words.specs.Spacing.{spaced}
use Rattle.call_words.specs.Options.{least, option_words}
use Rattle.call_words.specs.Ranges.{IsNumber, IsSpelled}
use Rattle.history_text.specs.Ranges.{AreStats, IsEntry}
use Rattle.history_text.specs.Words.{entry_words, end_words}

-- the largest number of an option line, one below the default
abbrev pub most : OptionName → ℕ
most option.Heap = 1048575
most option.Local = 65535
most option.Serials = 4294967295
most option.Counts = 4294967294
most option.Pending = 4095

-- an option with a number in its range that isn't its default
abbrev pub IsSetting : Setting → Type 0
IsSetting s = (least s.name ≤ s.number) × (s.number ≤ most s.name)

-- an option and its number
unfoldable pub setting_words : Setting → List (List ℕ)
setting_words s = option_words s.name s.number

-- the words of a line
unfoldable pub line_words : HistoryLine → List (List ℕ)
line_words (line.Setting s) = setting_words s
line_words (line.Entry e) = entry_words e
line_words (line.End count stats) = end_words count stats

-- a line without its line feed
abbrev pub line_text : HistoryLine → List ℕ
line_text h = spaced (line_words h)

-- the numbers of the line are in the ranges of their types
abbrev pub IsRanged : HistoryLine → Type 0
IsRanged (line.Setting s) = IsSetting s
IsRanged (line.Entry e) = IsEntry e
IsRanged (line.End count stats) = IsNumber count × AreStats stats

-- the numbers of an entry, or of the last line, are in the ranges of their types
abbrev pub HasNumbers : HistoryLine → Type 0
HasNumbers (line.Setting s) = Unit {0}
HasNumbers h = IsRanged h

-- its call is one that the grammar has
abbrev pub CanBeSpelled : HistoryLine → Type 0
CanBeSpelled (line.Entry e) = IsSpelled e.call
CanBeSpelled _ = Unit {0}

-- these bytes are this line
pub record IsLine (bytes : List ℕ) (h : HistoryLine) : Type 0 where
  pub ranged : IsRanged h
  pub spelled : CanBeSpelled h
  pub text : bytes ≡ line_text h

-- the line, its lists with no room
abbrev pub bare_line : HistoryLine → HistoryLine
bare_line (line.Entry e) = line.Entry (bare_entry e)
bare_line h = h

-- what bytes were found to be: a line, or none; memory may run out
abbrev pub Says : List ℕ → Result HistoryLine ArgumentErr → Type 0
Says bytes (Ok h) = IsLine bytes h
Says bytes (Err errors.Wrong) = (h : HistoryLine) → ¬ IsLine bytes h
Says bytes (Err errors.NoMemory) = Unit {0}
