-- What a publication and a step make of a thread's own set and the core
use Rattle.std.specs.Prelude.{◌≡◌, ◌⊎◌, ℕ, Bool, true, false, List, [], ◌∷◌, ◌++◌}
use Rattle.zone_model.specs.declared.call.Call.{Call}
use Rattle.zone_model.specs.declared.call.Call.TheVariants as call
use Rattle.zone_model.specs.declared.entry.Entry.{Entry}
use Rattle.zone_model.specs.declared.entry.Reply.{Reply}
use Rattle.zone_model.specs.declared.entry.Reply.TheVariants as reply
use Rattle.zone_model.specs.History.{Ends, is_cycle_step}
use Rattle.zone_model.specs.Phases.{CycleStays}
use Rattle.zone_model.specs.State.{State}
use Rattle.local_set.specs.Calls.{entry_of}
use Rattle.local_set.specs.LocalSets.{LocalSet, part_in}
use Rattle.zone_escape.specs.Cores.{CoreShown, IsCoreOf, BelongsTo, PartsStay}

-- these entries were published behind the others, and no other thread's part has changed
pub record Publishes (old new : LocalSet) (k m : CoreShown) (entries : List Entry) : Type 0 where
  pub journal : m.journal.entries ≡ k.journal.entries ++ entries
  pub options : m.heap.options ≡ k.heap.options
  pub thread : new.thread ≡ old.thread
  -- nothing waits any more
  pub out : new.waiting ≡ []
  pub belongs : BelongsTo new m
  pub others : PartsStay old.thread k m

-- the waiting entries were published, and nothing else has changed
pub record Flushed (old new : LocalSet) (k m : CoreShown) : Type 0 where
  pub published : Publishes old new k m old.waiting
  pub part : part_in new ≡ part_in old

-- the call ends its thread
abbrev pub is_leave : Call → Bool
is_leave call.Leave = true
is_leave _ = false

-- the waiting entries were published, and then the call with this reply
pub record Stepped (old new : LocalSet) (k m : CoreShown) (c : Call) (reply : Reply) : Type 0 where
  pub published : Publishes old new k m (old.waiting ++ entry_of old.thread c reply ∷ [])
  pub ended : new.ended ≡ is_leave c

-- nothing has changed but the room
pub record Untouched (old new : LocalSet) (k m : CoreShown) : Type 0 where
  pub local : new ≡ old
  pub journal : m.journal.entries ≡ k.journal.entries
  pub owed : m.journal.owed ≡ k.journal.owed
  pub options : m.heap.options ≡ k.heap.options
  pub state : (z : State) → IsCoreOf k z → IsCoreOf m z

-- the call with this reply leaves the open cycle as it is: it is no step of a cycle, or was answered by Busy
abbrev pub LeavesCycle : Call → Reply → Type 0
LeavesCycle c reply.Busy = Unit {0}
LeavesCycle c _ = is_cycle_step c ≡ false

-- the open cycle is the same at the end of both journals, whose ever it is
abbrev pub CyclesStay : CoreShown → CoreShown → Type 0
CyclesStay k m = (a : State) → Ends m.heap.options m.journal.entries a → (z : State) × Ends k.heap.options k.journal.entries z × ((t : ℕ) → CycleStays t z a)

-- what is left where memory was wanting: nothing has changed, or the waiting entries were published and nothing else
abbrev pub Refused : LocalSet → LocalSet → CoreShown → CoreShown → Type 0
Refused old new k m = Untouched old new k m ⊎ Flushed old new k m
