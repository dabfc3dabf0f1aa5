-- What the text of a line, and of a history, says
use Rattle.std.specs.Prelude.{◌≡◌, ℕ, List, map, Result, Ok, Err}
use Rattle.az_base.specs.declared.options.Options.{Options}
use Rattle.zone_model.specs.declared.entry.Entry.{Entry}
use Rattle.zone_model.specs.declared.entry.Stats.{Stats}
use Rattle.zone_model.specs.Bare.{bare_entry}
use Rattle.history_text.specs.declared.lines.HistoryLine.{HistoryLine}
use Rattle.history_text.specs.declared.texts.HistoryText.{HistoryText}
use Rattle.history_text.specs.declared.texts.TextErr.{TextErr}
use Rattle.history_text.specs.declared.texts.TextErr.TheVariants as errors
use Rattle.history_text.specs.Answers.{ReadsText}
use Rattle.history_text.specs.Lines.{IsLine, bare_line}
use Rattle.history_text.specs.Texts.{IsText, IsWrongAt}

-- two lines of the same bytes are the same, but for the room of their lists
abbrev pub LinesHaveOneReading : Type 0
LinesHaveOneReading = (bytes : List ℕ) (g h : HistoryLine) → IsLine bytes g → IsLine bytes h → bare_line g ≡ bare_line h

-- what two histories have alike whose entries differ in the room of their lists alone
pub record AreAlike (o p : Options) (g h : List Entry) (s t : Stats) : Type 0 where
  pub options : o ≡ p
  pub entries : map bare_entry g ≡ map bare_entry h
  pub stats : s ≡ t

-- what reading answers for the text of a history: this history, but for the room of its lists; memory may run out
abbrev pub IsReadAs : Options → List Entry → Stats → Result HistoryText TextErr → Type 0
IsReadAs o h s (Ok t) = AreAlike t.options o t.journal.entries h t.stats s
IsReadAs o h s (Err (errors.Line n)) = ⊥
IsReadAs o h s (Err errors.NoMemory) = Unit {0}

-- the text of a history is read as this history
abbrev pub TextsAreReadBack : Type 0
TextsAreReadBack =
    (bytes : List ℕ) (o : Options) (h : List Entry) (s : Stats) (answer : Result HistoryText TextErr) → IsText bytes o h s → ReadsText bytes answer → IsReadAs o h s answer

-- two histories of the same text are the same, but for the room of their lists
abbrev pub TextsHaveOneReading : Type 0
TextsHaveOneReading =
    (bytes : List ℕ) (o p : Options) (g h : List Entry) (s t : Stats) → IsText bytes o g s → IsText bytes p h t → AreAlike o p g h s t

-- the first line that can't stand is one
abbrev pub OneLineIsWrong : Type 0
OneLineIsWrong = (bytes : List ℕ) (m n : ℕ) → IsWrongAt bytes m → IsWrongAt bytes n → m ≡ n
