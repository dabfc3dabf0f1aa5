-- The command soak: what it writes, and how it ends
use Rattle.std.specs.Prelude.{◌≡◌, ◌⊎◌, ℕ, Bool, true, false, List, [], ◌∷◌, ◌++◌, length, codes}
use Rattle.std.specs.List.{count_by, sum_by}
use Rattle.std.specs.Fmt.{decimal}
use Rattle.az_base.specs.OptionRanges.{usual_options}
use Rattle.az_outside.specs.Causes.{Rose}
use Rattle.az_outside.specs.Bytes.{GrewByFront}
use Rattle.zone_model.specs.declared.entry.Entry.{Entry}
use Rattle.zone_model.specs.declared.entry.Reply.{Reply}
use Rattle.zone_model.specs.declared.entry.Reply.TheVariants as reply
use Rattle.zone_model.specs.declared.entry.Stats.{Stats}
use Rattle.play_core.specs.Playing.{requests_of}
use Rattle.play_order.specs.Play.{IsPlayOf}
use Rattle.zone_history.specs.Histories.{IsHistoryOf}
use Rattle.history_text.specs.declared.lines.HistoryLine.TheVariants as line
use Rattle.history_text.specs.Lines.{line_text}
use Rattle.soak_script.specs.Generated.{soak_script}
use Rattle.zone_commands.specs.declared.soak.Counts.{Counts}
use Rattle.zone_commands.specs.declared.status.Status.{Status}
use Rattle.zone_commands.specs.declared.status.Status.TheVariants as status
use Rattle.zone_commands.specs.Answers.{Says, told}

-- how many ids the reclaimed list of a reply has; those that are kept don't count
abbrev pub reclaimed_in : Reply → ℕ
reclaimed_in (reply.Reclaimed gone) = length gone.list
reclaimed_in (reply.Settled gone kept) = length gone.list
reclaimed_in r = 0

-- the reply is a misuse
abbrev pub is_misuse : Reply → Bool
is_misuse (reply.Misuse m) = true
is_misuse r = false

-- how many ids stand in the reclaimed lists of a history
abbrev pub reclaimed_count : List Entry → ℕ
reclaimed_count history = sum_by (λ e. reclaimed_in e.reply) history

-- how many replies of a history are misuses
abbrev pub misuse_count : List Entry → ℕ
misuse_count history = count_by (λ e. is_misuse e.reply) history

-- what a history comes to
abbrev pub counts_of : List Entry → Counts
counts_of history = record { entries = length history; reclaimed = reclaimed_count history; misuses = misuse_count history }

-- the counts in words
unfoldable pub counts_text : Counts → List ℕ
counts_text counts = codes "entries " ++ decimal counts.entries ++ codes " reclaimed " ++ decimal counts.reclaimed ++ codes " misuses " ++ decimal counts.misuses

-- the summary of a generated script of this start and so many calls, by what its history comes to
abbrev pub summary_text : ℕ → ℕ → Counts → List ℕ
summary_text start calls counts = codes "soak " ++ decimal start ++ codes " " ++ decimal calls ++ codes " " ++ counts_text counts ++ 10 ∷ []

-- the two lines that are written: the summary, and the last line of the history's text
abbrev pub soak_text : ℕ → ℕ → List Entry → Stats → List ℕ
soak_text start calls history stats = summary_text start calls (counts_of history) ++ line_text (line.End (length history) stats) ++ 10 ∷ []

-- the text is that of the generated script's history, in the order of a play
pub record IsSoaked (start calls : ℕ) (text : List ℕ) : Type 0 where
  pub history : List Entry
  pub stats : Stats
  pub played : IsHistoryOf usual_options (requests_of (soak_script start calls)) history stats
  pub ordered : IsPlayOf usual_options (requests_of (soak_script start calls)) history stats
  pub spelled : text ≡ soak_text start calls history stats

-- how soak ended: what each status says of the output and of the error output, before and after
pub record SoakEnded (start calls : ℕ) (s : Status) (grew : List ℕ → Type 0) (writes_old writes_new : ℕ) (said : List ℕ → Type 0) (says_old says_new : ℕ) : Type 0 where
  pub done : s ≡ status.Done → ((text : List ℕ) × IsSoaked start calls text × grew text) × said []
  pub write : s ≡ status.WriteFault → Rose writes_old writes_new × ((text : List ℕ) × IsSoaked start calls text × GrewByFront grew text) × Says says_old says_new said (told (codes "write fault"))
  pub memory : s ≡ status.NoMemory → grew [] × Says says_old says_new said (told (codes "no memory"))
  -- no other status comes
  pub comes : (s ≡ status.Done) ⊎ (s ≡ status.WriteFault) ⊎ (s ≡ status.NoMemory)
