-- A call of a thread of which nothing waits, made on its own set and the heap
use Rattle.std.specs.Prelude.{◌≡◌, true, false, []}
use Rattle.zone_model.specs.declared.call.Call.{Call}
use Rattle.zone_model.specs.declared.entry.Reply.{Reply}
use Rattle.zone_model.specs.Part.{is_local}
use Rattle.zone_model.specs.State.{State}
use Rattle.zone_model.specs.Step.{Step}
use Rattle.heap_cycle.specs.Collector.{Collecting}
use Rattle.shared_heap.specs.Cycles.{IsOpenOf}
use Rattle.shared_heap.specs.Shared.{Shared}
use Rattle.local_set.specs.Calls.{entry_of}
use Rattle.local_set.specs.LocalSets.{LocalSet, part_in}
use Rattle.escape_plan.specs.Together.{AreTogether, Together}
use Rattle.zone_escape.specs.Publications.{is_leave}

-- the thread may make the call now: it belongs together with the heap, nothing of it waits, it hasn't ended, the call isn't local, and where it leaves, no cycle of it is open
pub record CanMake (l : LocalSet) (h : Shared) (c : Call) : Type 0 where
  pub together : AreTogether l h
  pub out : l.waiting ≡ []
  pub running : l.ended ≡ false
  pub shared : is_local (part_in l) c ≡ false
  pub free : is_leave c ≡ true → (g : Collecting) → IsOpenOf h l.thread g → ⊥

-- the call with this reply is a step from each state to which both belong, and then they belong to where it leads
pub record Makes (l m : LocalSet) (h k : Shared) (c : Call) (reply : Reply) : Type 0 where
  pub step : (z : State) → Together l h z → (a : State) × Step z (entry_of l.thread c reply) a × Together m k a
  pub thread : m.thread ≡ l.thread
  pub waiting : m.waiting ≡ []
  pub options : k.options ≡ h.options

-- the call was refused for want of memory: they belong to each state to which they did
pub record Stays (l m : LocalSet) (h k : Shared) : Type 0 where
  pub together : (z : State) → Together l h z → Together m k z
  pub thread : m.thread ≡ l.thread
  pub waiting : m.waiting ≡ []
  pub options : k.options ≡ h.options
