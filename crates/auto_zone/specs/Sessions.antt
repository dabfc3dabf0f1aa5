-- What a session keeps, and what its calls do
use Rattle.std.specs.Prelude.{◌≡◌, ℕ, false, Option, is_some, IsTrue, All, Contains, List, [], ◌∷◌, ◌++◌, length}
use mathlib.Core.List.{IsPrefix}
use Rattle.az_base.specs.declared.options.Options.{Options}
use Rattle.zone_model.specs.Part.{Solo}
use Rattle.zone_model.specs.State.{State}
use Rattle.zone_model.specs.Stats.{stats_of}
use Rattle.zone_model.specs.declared.entry.Stats.{Stats}
use Rattle.zone_model.specs.declared.call.Call.{Call}
use Rattle.zone_model.specs.declared.call.Call.TheVariants as call
use Rattle.zone_model.specs.declared.entry.Entry.{Entry}
use Rattle.zone_model.specs.declared.entry.Reply.{Reply}
use Rattle.zone_model.specs.History.{Ends, Legal, entries_of}
use Rattle.zone_gate.specs.declared.cut.Cut.{Cut}
use Rattle.zone_gate.specs.Shown.{SeatShown}
use Rattle.local_set.specs.LocalSets.{LocalSet, part_in}
use Rattle.local_set.specs.Calls.{entry_of}
use Rattle.auto_zone.specs.Shown.{seat_in}
use Rattle.escape_plan.specs.Together.{Belongs}
use Rattle.zone_model.specs.Phases.{Free}

-- of a seat and a local set: what was seen is legal, the thread's entries in it are its own, what waits is local from the
-- thread's part there on to the part now, and its cycle is in this phase
pub record AlwaysIn (P : State → ℕ → Type 0) (s : SeatShown) (l : LocalSet) : Type 0 where
  pub state : State
  pub ends : Ends s.options s.seen state
  pub own : entries_of s.thread s.seen ≡ s.own
  pub thread : l.thread ≡ s.thread
  pub belongs : Belongs l state
  pub phase : P state s.thread
  pub running : l.ended ≡ false

-- and no cycle of the thread is open
abbrev pub Always : SeatShown → LocalSet → Type 0
Always s l = AlwaysIn Free s l

-- the same place at the same gate
pub record SamePlace (s u : SeatShown) : Type 0 where
  pub gate : u.gate ≡ s.gate
  pub options : u.options ≡ s.options
  pub thread : u.thread ≡ s.thread

-- one cut more, with the length of the own entries
abbrev pub CutOnce : SeatShown → SeatShown → Type 0
CutOnce s u = (x : Cut) × (u.cuts ≡ s.cuts ++ x ∷ []) × (x.length ≡ length u.own)

-- a shared call was answered
pub record Called (s u : SeatShown) (l m : LocalSet) (c : Call) (reply : Reply) : Type 0 where
  pub own : u.own ≡ s.own ++ l.waiting ++ entry_of s.thread c reply ∷ []
  pub out : m.waiting ≡ []
  pub begins : IsPrefix s.seen u.seen
  pub ends : (front : List Entry) × (u.seen ≡ front ++ entry_of s.thread c reply ∷ [])
  pub cut : CutOnce s u
  -- the part at which the call was made is that of the thread's own entries alone
  pub solo : Solo s.options (s.own ++ l.waiting) (part_in l)

-- nothing but the waiting entries was published
pub record CalledOff (s u : SeatShown) (l m : LocalSet) : Type 0 where
  pub own : u.own ++ m.waiting ≡ s.own ++ l.waiting
  pub part : part_in m ≡ part_in l
  pub begins : IsPrefix s.seen u.seen
  pub cut : CutOnce s u

-- nothing was published
pub record NotSynced (s u : SeatShown) (l m : LocalSet) : Type 0 where
  pub own : u.own ≡ s.own
  pub local : m ≡ l
  pub begins : IsPrefix s.seen u.seen
  pub cut : CutOnce s u

-- the waiting entries were published
pub record Synced (s u : SeatShown) (l m : LocalSet) : Type 0 where
  pub own : u.own ≡ s.own ++ l.waiting
  pub out : m.waiting ≡ []
  pub part : part_in m ≡ part_in l
  pub begins : IsPrefix s.seen u.seen
  pub cut : CutOnce s u
  -- the part at which the call was made is that of the thread's own entries alone
  pub solo : Solo s.options (s.own ++ l.waiting) (part_in l)

-- what a session is seen as while its seat is there
abbrev pub Sits : Option SeatShown → LocalSet → Type 0
Sits seat l = IsTrue (is_some seat) × Always (seat_in seat) l

-- the thread left
pub record Left (s u : SeatShown) (l : LocalSet) : Type 0 where
  pub own : (e : Entry) × (u.own ≡ s.own ++ l.waiting ++ e ∷ []) × (e.call ≡ call.Leave)
  pub ends : (front : List Entry) × (e : Entry) × (u.seen ≡ front ++ e ∷ []) × (e.call ≡ call.Leave)
  pub begins : IsPrefix s.seen u.seen
  pub cut : CutOnce s u
  -- the part at which the call was made is that of the thread's own entries alone
  pub solo : Solo s.options (s.own ++ l.waiting) (part_in l)

-- the list of a zone whose sessions have ended, and the statistics of its end
pub record IsClosed (o : Options) (threads : List ℕ) (ended : List SeatShown) (list : List Entry) (stats : Stats) : Type 0 where
  pub legal : Legal o list
  pub begins : All (λ s. IsPrefix s.seen list) ended
  pub own : All (λ s. entries_of s.thread list ≡ s.own) ended
  pub others : All (λ e. Contains threads e.thread) list
  pub counted : (z : State) → Ends o list z → stats ≡ stats_of z
