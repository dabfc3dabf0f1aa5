-- Which histories threads have that are asked for something
use Rattle.std.specs.Prelude.{◌≡◌, ℕ, ◌==◌, Bool, List, [], map, filter, IsTrue, IsFalse}
use Rattle.std.specs.List.{list_any}
use Rattle.az_base.specs.declared.options.Options.{Options}
use Rattle.zone_model.specs.declared.act.Act.{Act}
use Rattle.zone_model.specs.declared.entry.Entry.{Entry}
use Rattle.zone_model.specs.declared.entry.Stats.{Stats}
use Rattle.zone_model.specs.State.{State}
use Rattle.zone_model.specs.Stats.{stats_of}
use Rattle.zone_model.specs.History.{Ends, Matches, entries_of}

-- what a thread is asked for
abbrev pub Request : Type 0
Request = ℕ × Act

-- the thread is asked for something
abbrev pub is_asked : List Request → ℕ → Bool
is_asked requests t = list_any (λ r. r.0 == t) requests

-- what the thread is asked for, in order
abbrev pub asked_of : List Request → ℕ → List Act
asked_of requests t = map (λ r. r.1) (filter (λ r. r.0 == t) requests)

-- a legal history under the options, in which the entries of each thread that is asked match what it is asked for, and no other thread has an entry; these are the statistics of its end
pub record IsHistoryOf (o : Options) (requests : List Request) (history : List Entry) (stats : Stats) : Type 0 where
  pub last : State
  pub legal : Ends o history last
  pub counted : stats ≡ stats_of last
  pub own : (t : ℕ) → IsTrue (is_asked requests t) → Matches (entries_of t history) (asked_of requests t)
  pub others : (t : ℕ) → IsFalse (is_asked requests t) → entries_of t history ≡ []
