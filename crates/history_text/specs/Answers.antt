-- What reading a whole text answers
use Rattle.std.specs.Prelude.{◌≡◌, ℕ, List, Result, Ok, Err}
use Rattle.zone_model.specs.declared.entry.Stats.{Stats}
use Rattle.history_text.specs.declared.draft.Draft.{Draft}
use Rattle.history_text.specs.declared.texts.HistoryText.{HistoryText}
use Rattle.history_text.specs.declared.texts.TextErr.{TextErr}
use Rattle.history_text.specs.declared.texts.TextErr.TheVariants as errors
use Rattle.history_text.specs.Texts.{IsText, IsWrongAt}

-- the bytes are the text of what was read, of whose journal nothing is owed, or their first line that can't stand has this number; memory may run out
abbrev pub ReadsText : List ℕ → Result HistoryText TextErr → Type 0
ReadsText bytes (Ok t) = IsText bytes t.options t.journal.entries t.stats × (t.journal.owed ≡ 0)
ReadsText bytes (Err (errors.Line n)) = IsWrongAt bytes n
ReadsText bytes (Err errors.NoMemory) = Unit {0}

-- the same where the options and the entries stand in a draft
abbrev pub ReadsLines : List ℕ → Draft → Result Stats TextErr → Type 0
ReadsLines bytes d (Ok s) = IsText bytes d.options d.journal.entries s × (d.journal.owed ≡ 0)
ReadsLines bytes d (Err (errors.Line n)) = IsWrongAt bytes n
ReadsLines bytes d (Err errors.NoMemory) = Unit {0}
