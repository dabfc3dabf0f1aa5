-- The steps of a thread's own cycle, made on the heap
use Rattle.std.specs.Prelude.{◌≡◌, ◌<◌, Bool, true, false, ℕ, IfSome, IsSome}
use Rattle.zone_model.specs.declared.call.Call.{Call}
use Rattle.zone_model.specs.declared.call.Call.TheVariants as call
use Rattle.zone_model.specs.declared.entry.Reply.{Reply}
use Rattle.zone_model.specs.declared.entry.Reply.TheVariants as reply
use Rattle.zone_model.specs.InRange.{InRange}
use Rattle.zone_model.specs.State.{State}
use Rattle.zone_model.specs.Step.{Step}
use Rattle.shared_heap.specs.Cycles.{IsMarking, IsSettling}
use Rattle.shared_heap.specs.Shared.{Shared, finalisers_left}
use Rattle.local_set.specs.Calls.{entry_of}
use Rattle.local_set.specs.LocalSets.{LocalSet}
use Rattle.escape_plan.specs.Together.{Together}
use Rattle.zone_escape.specs.declared.cycles.Closing.{Closing}
use Rattle.zone_escape.specs.declared.cycles.Closing.TheVariants as closing
use Rattle.zone_escape.specs.Cores.{HasLists}
use Rattle.zone_escape.specs.Making.{CanMake}

-- a cycle has begun
abbrev pub is_begun : Reply → Bool
is_begun reply.Begun = true
is_begun _ = false

-- the call of a step that goes on with a cycle
abbrev pub call_of : Closing → Call
call_of closing.Condemn = call.Condemn
call_of closing.Finalise = call.Finalise
call_of closing.Reclaim = call.Reclaim

-- the thread's open cycle stands where the step goes on
abbrev pub GoesOn : Shared → ℕ → Closing → Type 0
GoesOn h t closing.Condemn = IsMarking h t
GoesOn h t closing.Finalise = IsSettling h t × (0 < finalisers_left h)
GoesOn h t closing.Reclaim = IsSettling h t × (finalisers_left h ≡ 0)

-- the thread may make the step now, and the open cycle has the lists that its entries need
pub record CanClose (l : LocalSet) (h : Shared) (c : Closing) : Type 0 where
  pub can : CanMake l h (call_of c)
  pub state : (z : State) × Together l h z × InRange z
  pub goes : GoesOn h l.thread c
  pub lists : HasLists h

-- the step of a cycle with this reply is one from each state in range to which both belong, and then they belong to where it leads
pub record Advances (l : LocalSet) (h k : Shared) (c : Call) (reply : Reply) : Type 0 where
  pub step : (z : State) → Together l h z → InRange z → (a : State) × Step z (entry_of l.thread c reply) a × Together l k a
  pub options : k.options ≡ h.options

-- the open cycle, if there is one, is condemned
abbrev pub IsClosing : Shared → Type 0
IsClosing h = IfSome h.gc.cycle (λ g. IsSome g.condemned)
