-- What a world is seen as, and what a call makes of it
use Rattle.std.specs.Prelude.{◌≡◌, ◌<◌, ◌⊎◌, ◌==◌, ℕ, Bool, false, not, List, [], ◌∷◌, ◌++◌, map, find, flat_map, Option, None, if◌then◌else◌}
use Rattle.std.specs.Option.{option_map_or}
use Rattle.az_base.specs.declared.options.Options.{Options}
use Rattle.gen_marker.specs.Marking.{blacks}
use Rattle.zone_model.specs.declared.act.Act.TheVariants as act
use Rattle.zone_model.specs.declared.call.Call.{Call}
use Rattle.zone_model.specs.declared.entry.Entry.{Entry}
use Rattle.zone_model.specs.declared.entry.Reply.{Reply}
use Rattle.zone_model.specs.History.{Ends}
use Rattle.zone_model.specs.Part.{Part, opening_part, is_local}
use Rattle.zone_model.specs.Phases.{CycleStays}
use Rattle.zone_model.specs.State.{State}
use Rattle.heap_cycle.specs.Collector.{Collecting, shade_in}
use Rattle.shared_heap.specs.Cycles.{marked_by}
use Rattle.local_set.specs.Calls.{entry_of}
use Rattle.local_set.specs.LocalSets.{LocalSet, part_in}
use Rattle.zone_escape.specs.Publications.{is_leave}
use Rattle.play_order.specs.Places.{Played}
use Rattle.play_order.specs.Playing.{Seen, Turn}

-- a world: the options, what was published, each thread's own set, and how far the open cycle has come
pub record WorldShown : Type 0 where
  pub options : Options
  pub journal : List Entry
  pub locals : List LocalSet
  pub cycle : Option Collecting

-- how many blocks the open cycle has scanned, until it is condemned
abbrev pub scanned : WorldShown → ℕ
scanned w = marked_by (λ g. blacks g.start (shade_in g)) w.cycle

-- the threads of the sets
abbrev pub threads_in : List LocalSet → List ℕ
threads_in locals = map (λ l. l.thread) locals

-- the number is below all of these
abbrev pub IsBelow : ℕ → List ℕ → Type 0
IsBelow t [] = Unit {0}
IsBelow t (u ∷ us) = (t < u) × IsBelow t us

-- each number is below all that follow
abbrev pub Ascending : List ℕ → Type 0
Ascending [] = Unit {0}
Ascending (t ∷ ts) = IsBelow t ts × Ascending ts

-- the thread's own set, if it is there
abbrev pub local_of : WorldShown → ℕ → Option LocalSet
local_of w t = find (λ l. l.thread == t) w.locals

-- what waits of the thread
abbrev pub waits_of : WorldShown → ℕ → List Entry
waits_of w t = option_map_or (λ l. l.waiting) (local_of w t) []

-- the thread's part; that of a thread that isn't there has nothing in it
abbrev pub part_at : WorldShown → ℕ → Part
part_at w t = option_map_or part_in (local_of w t) (opening_part w.options)

-- the options, what is published and what waits, and the threads' parts
abbrev pub seen : WorldShown → Seen
seen w = record { options = w.options; queues = record { journal = w.journal; waits = waits_of w }; parts = part_at w }

-- the thread is there and hasn't left
abbrev pub is_running : WorldShown → ℕ → Bool
is_running w t = option_map_or (λ l. not l.ended) (local_of w t) false

-- the line that a call of the thread is, with its reply
abbrev pub line_of : WorldShown → ℕ → Call → Reply → Played
line_of w t call reply = record { thread = t; local = is_local (part_at w t) call; entries = entry_of t call reply ∷ [] }

-- the thread made the call: it waits or is published as the order of plays says, and nothing of another thread has changed
pub record Steps (old new : WorldShown) (t : ℕ) (call : Call) (reply : Reply) : Type 0 where
  pub turn : Turn (seen old) (t, act.Call call) (line_of old t call reply) (seen new)
  pub others : (u : ℕ) → (t == u) ≡ false → local_of new u ≡ local_of old u
  -- it goes on, unless it left
  pub running : is_running new t ≡ not (is_leave call)

-- each state at the end of what was published is so
abbrev pub AtEnd : WorldShown → (State → Type 0) → Type 0
AtEnd w P = (z : State) → Ends w.options w.journal z → P z

-- no cycle is open
abbrev pub IsQuiet : WorldShown → Type 0
IsQuiet w = AtEnd w (λ z. z.cycle ≡ None)

-- the open cycle is the same at the end of what was published before and now
abbrev pub CyclesStay : WorldShown → WorldShown → Type 0
CyclesStay old new = AtEnd new (λ a. (z : State) × Ends old.options old.journal z × ((t : ℕ) → CycleStays t z a))

-- what waits of the thread was published, and nothing else has changed
abbrev pub with_published : Seen → ℕ → Seen
with_published s t = record s { queues = record { journal = s.queues.journal ++ s.queues.waits t; waits = λ u. if t == u then [] else s.queues.waits u } }

-- what is left where memory was wanting: nothing has changed, or what waits of the thread was published and nothing else
abbrev pub Stops : Seen → Seen → ℕ → Type 0
Stops old new t = (new ≡ old) ⊎ (new ≡ with_published old t)

-- none of these is the thread
abbrev pub NoneIs : ℕ → List ℕ → Type 0
NoneIs t [] = Unit {0}
NoneIs t (u ∷ us) = ((t == u) ≡ false) × NoneIs t us

-- each stands once
abbrev pub EachOnce : List ℕ → Type 0
EachOnce [] = Unit {0}
EachOnce (t ∷ ts) = NoneIs t ts × EachOnce ts

-- what waits of the threads, one after another
abbrev pub all_waiting : WorldShown → List ℕ → List Entry
all_waiting w ts = flat_map (waits_of w) ts
