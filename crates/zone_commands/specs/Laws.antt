-- What is written, said of what was asked for
use Rattle.std.specs.Prelude.{◌≡◌, ◌↔◌, ℕ, List, All, Some, Result}
use Rattle.zone_model.specs.declared.entry.Entry.{Entry}
use Rattle.zone_model.specs.declared.entry.Stats.{Stats}
use Rattle.call_words.specs.Ranges.{IsSpelled}
use Rattle.heap_script.specs.declared.script.Script.{Script}
use Rattle.heap_script.specs.Scripts.{AllSpelled}
use Rattle.zone_history.specs.Histories.{IsHistoryOf}
use Rattle.history_text.specs.declared.texts.HistoryText.{HistoryText}
use Rattle.history_text.specs.declared.texts.TextErr.{TextErr}
use Rattle.history_text.specs.Answers.{ReadsText}
use Rattle.history_text.specs.Laws.{IsReadAs}
use Rattle.play_core.specs.Playing.{requests_of}
use Rattle.zone_commands.specs.declared.words.Command.{Command}
use Rattle.zone_commands.specs.Answers.{IsPlayed, IsRun}
use Rattle.zone_commands.specs.CommandLine.{asked, AsksFor}
use Rattle.zone_commands.specs.Soak.{IsSoaked}

-- bytes have one text: whoever plays them writes the same
abbrev pub BytesHaveOneText : Type 0
BytesHaveOneText = (bytes one other : List ℕ) → IsPlayed bytes one → IsPlayed bytes other → one ≡ other

-- the calls in a history of a script are such as the grammar has
abbrev pub HistoriesAreSpelled : Type 0
HistoriesAreSpelled =
    (script : Script) (history : List Entry) (stats : Stats) → AllSpelled script.lines → IsHistoryOf script.options (requests_of script) history stats → All (λ e. IsSpelled e.call) history

-- whoever reads what was written of a script reads the history that was played, but for the room of the lists in its replies; memory may run out
abbrev pub TextsAreReadAsPlayed : Type 0
TextsAreReadAsPlayed =
    (bytes text : List ℕ) (answer : Result HistoryText TextErr) (p : IsPlayed bytes text) → ReadsText text answer → IsReadAs p.script.options p.history p.stats answer

abbrev pub TextsAreReadAsRun : Type 0
TextsAreReadAsRun =
    (bytes text : List ℕ) (answer : Result HistoryText TextErr) (p : IsRun bytes text) → ReadsText text answer → IsReadAs p.script.options p.history p.stats answer

-- a start and a number of calls have one text: whoever plays their script writes the same
abbrev pub SoaksHaveOneText : Type 0
SoaksHaveOneText = (start calls : ℕ) (one other : List ℕ) → IsSoaked start calls one → IsSoaked start calls other → one ≡ other

-- words ask for exactly what the commands say, and so for one thing at most
abbrev pub CommandsAreAsked : Type 0
CommandsAreAsked = (words : List (List ℕ)) (command : Command) → (asked words ≡ Some command) ↔ AsksFor words command
