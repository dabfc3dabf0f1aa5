-- What a world shows while it plays what threads are asked for, and what has to be known of one line for the whole to be in order
use Rattle.std.specs.Prelude.{◌≡◌, ℕ, List, [], ◌++◌, All}
use Rattle.az_base.specs.declared.options.Options.{Options}
use Rattle.zone_model.specs.History.{IsGroup, entries_of}
use Rattle.zone_model.specs.Part.{Part, Solo}
use Rattle.zone_history.specs.Histories.{Request}
use Rattle.play_order.specs.Places.{Played}
use Rattle.play_order.specs.Waiting.{Queues, InPlace, Plays}
use Rattle.play_order.specs.Play.{AreTurns, is_local_act}

-- what contracts see of a world: the options, what is published and what waits, and each thread's part
pub record Seen : Type 0 where
  pub options : Options
  pub queues : Queues
  pub parts : ℕ → Part

-- the thread's part is what its entries make, the published and then the waiting ones
abbrev pub IsTold : Seen → ℕ → Type 0
IsTold w t = Solo w.options (entries_of t w.queues.journal ++ w.queues.waits t) (w.parts t)

-- a line is played: its entries are its thread's, and the group of what it asks for; it is local or not at its thread's part; and it waits or is published
pub record Turn (w : Seen) (r : Request) (line : Played) (after : Seen) : Type 0 where
  pub thread : line.thread ≡ r.0
  pub group : IsGroup r.1 line.entries
  pub own : All (λ e. e.thread ≡ line.thread) line.entries
  pub local : line.local ≡ is_local_act (w.parts line.thread) r.1
  pub plays : Plays w.options.pending w.queues line after.queues
  pub options : after.options ≡ w.options

-- so far this was asked for, and what the world shows stands where the places say
pub record SoFar (requests : List Request) (w : Seen) : Type 0 where
  pub lines : List Played
  pub turns : AreTurns w.options [] requests lines
  pub placed : InPlace w.options.pending lines w.queues
