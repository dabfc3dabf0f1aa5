-- How lines are played one after another: with a list of waiting entries for each thread
use Rattle.std.specs.Prelude.{◌≡◌, ◌==◌, ℕ, false, List, [], ◌++◌, length, MatchBool}
use Rattle.zone_model.specs.declared.entry.Entry.{Entry}
use Rattle.play_order.specs.Places.{Played, Singles, in_order, waiting_entries}

-- what is published, and what waits of each thread
pub record Queues : Type 0 where
  pub journal : List Entry
  pub waits : ℕ → List Entry

-- the lists stand where the places say, once these lines were played
pub record InPlace (pending : ℕ) (lines : List Played) (d : Queues) : Type 0 where
  pub journal : d.journal ≡ in_order pending lines
  pub waits : (t : ℕ) → d.waits t ≡ waiting_entries pending t lines
  -- each local line that was played has one entry
  pub single : Singles lines

-- a local line waits; where as many entries wait already as the option pending says, those are published first
abbrev pub Waits : ℕ → Queues → Played → Queues → Type 0
Waits pending d line after =
    MatchBool (length (d.waits line.thread) == pending)
    ((after.journal ≡ d.journal ++ d.waits line.thread) × (after.waits line.thread ≡ line.entries))
    ((after.journal ≡ d.journal) × (after.waits line.thread ≡ d.waits line.thread ++ line.entries))

-- any other line publishes what waits of its thread, and then its own entries
abbrev pub Publishes : Queues → Played → Queues → Type 0
Publishes d line after = (after.journal ≡ d.journal ++ (d.waits line.thread ++ line.entries)) × (after.waits line.thread ≡ [])

-- one more line is played
pub record Plays (pending : ℕ) (d : Queues) (line : Played) (after : Queues) : Type 0 where
  pub does : MatchBool line.local (Waits pending d line after) (Publishes d line after)
  pub others : (u : ℕ) → (line.thread == u) ≡ false → after.waits u ≡ d.waits u
