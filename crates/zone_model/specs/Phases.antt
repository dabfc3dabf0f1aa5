-- Where a thread stands in its own cycle, and what others leave of it
-- A thread is free, or its cycle is marking, or it is settling: its condemned blocks are finalised one after another.
use Rattle.std.specs.Prelude.{◌≡◌, ℕ, ◌==◌, Bool, true, false, List, Option, Some, None, option_and_then, length, filter, find, IsTrue, IsFalse}
use Rattle.std.specs.List.{list_any}
use Rattle.std.specs.List.Sorted.{IsStrictlySortedBy}
use Rattle.az_base.specs.declared.block_id.BlockId.{BlockId}
use Rattle.az_base.specs.Ids.{id_cmp, among}
use Rattle.zone_model.specs.declared.call.Call.{Call}
use Rattle.zone_model.specs.declared.call.Call.TheVariants as call
use Rattle.zone_model.specs.declared.entry.Entry.{Entry}
use Rattle.zone_model.specs.State.{State, Cycle}
use Rattle.zone_model.specs.Collection.{HasCycle, HasCondemned, awaits}

-- no cycle of the thread is open
abbrev pub Free : State → ℕ → Type 0
Free z t = (c : Cycle) → ¬ HasCycle z t c

-- the thread's open cycle isn't condemned yet
abbrev pub Marking : State → ℕ → Type 0
Marking z t = (c : Cycle) × HasCycle z t c × (c.condemned ≡ None)

-- the thread's open cycle is condemned, and so many of its blocks wait for their finaliser
pub record Settling (n : ℕ) (z : State) (t : ℕ) : Type 0 where
  pub r : List BlockId
  pub condemned : HasCondemned z t r
  pub ascending : IsStrictlySortedBy id_cmp r
  pub left : length (filter (awaits z) r) ≡ n

-- how many blocks of a condemned set, if there is one, wait for their finaliser
abbrev pub left_among : State → Option (List BlockId) → ℕ
left_among z None = 0
left_among z (Some r) = length (filter (awaits z) r)

-- how many blocks of the open cycle's condemned set do
abbrev pub left_in : State → ℕ
left_in z = left_among z (option_and_then (λ c. c.condemned) z.cycle)

-- a step of a cycle that was begun
abbrev pub is_closing : Call → Bool
is_closing call.Condemn = true
is_closing call.Finalise = true
is_closing call.Reclaim = true
is_closing _ = false

-- the thread may make the call where its own cycle stands so
abbrev pub May : State → ℕ → Call → Type 0
May z t (call.Begin mode) = Free z t
May z t call.Condemn = Marking z t
May z t call.Finalise = (r : List BlockId) × HasCondemned z t r × (b : BlockId) × (find (awaits z) r ≡ Some b)
May z t call.Reclaim = (r : List BlockId) × HasCondemned z t r × (find (awaits z) r ≡ None)
May z t call.Leave = Free z t
May z t _ = Unit {0}

-- two cycles are one, but for what they have seen
pub record SameCycle (y z : State) (c d : Cycle) : Type 0 where
  pub owner : d.owner ≡ c.owner
  pub mode : d.mode ≡ c.mode
  pub start : d.start ≡ c.start
  pub condemned : d.condemned ≡ c.condemned
  -- the blocks that are still to be finalised
  pub left : (r : List BlockId) (b : BlockId) → c.condemned ≡ Some r → IsTrue (among r b) → awaits z b ≡ awaits y b

-- a thread has an open cycle in the second state exactly where it has one in the first, and it is the same
pub record CycleStays (t : ℕ) (y z : State) : Type 0 where
  pub still : (c : Cycle) → HasCycle y t c → (d : Cycle) × HasCycle z t d × SameCycle y z c d
  pub before : (d : Cycle) → HasCycle z t d → (c : Cycle) × HasCycle y t c × SameCycle y z c d

-- no entry is of the thread
abbrev pub NoneOf : ℕ → List Entry → Type 0
NoneOf t es = IsFalse (list_any (λ e. e.thread == t) es)
