-- A thread's own cycle: what local calls leave of it, and what its steps make of it
use Rattle.std.proofs.Common.{◌≡◌, ℕ, Bool, true, false, List, [], ◌∷◌, inl, inr, refl, sym, subst, ◌⊎◌}
use Rattle.az_base.specs.declared.action.Mode.{Mode}
use Rattle.zone_model.specs.Bare.{bare_reply}
use Rattle.zone_model.specs.declared.call.Call.{Call}
use Rattle.zone_model.specs.declared.call.Call.TheVariants as call
use Rattle.zone_model.specs.declared.entry.Entry.{Entry}
use Rattle.zone_model.specs.declared.entry.Reply.{Reply}
use Rattle.zone_model.specs.declared.entry.Reply.TheVariants as reply
use Rattle.zone_model.specs.History.{Run, is_cycle_step}
use Rattle.zone_model.specs.LocalSteps.{LocalRun}
use Rattle.zone_model.specs.Part.{Part, is_local}
use Rattle.zone_model.specs.Phases.{Free, Marking, May, left_in}
use Rattle.zone_model.specs.Sound.{Sound}
use Rattle.zone_model.specs.State.{State}
use Rattle.zone_model.specs.Step.{Step, Happens}
use Rattle.zone_model.proofs.Cycling.{free_stays, marking_stays, settling_stays, begin_step, condemn_step, finalise_step, reclaim_step, settling_may}
use Rattle.zone_model.proofs.Soundness.{step_sound}
use Rattle.zone_model.proofs.SoundLaws.{calls_leave_cycle}
use Rattle.zone_model.proofs.Steps.{plain_happens}
use Rattle.local_set.specs.Calls.{entry_of}
use Rattle.auto_zone.specs.Stages.{InStage, OutStage, Opened, begun_reply, IsSettled, Tells}
use Rattle.auto_zone.proofs.Later.{StaysSo}

local_no_cycle : (p : Part) (c : Call) → is_local p c ≡ true → is_cycle_step c ≡ false
local_no_cycle p (call.Begin mode) h = cc (h)
local_no_cycle p call.Condemn h = cc (h)
local_no_cycle p call.Finalise h = cc (h)
local_no_cycle p call.Reclaim h = cc (h)
local_no_cycle p _ h = refl

-- local calls of a thread leave each thread in its phase
pub local_stays : {P : State → ℕ → Type 0} → StaysSo P → (p : Part) (t : ℕ) (es : List Entry) (last : Part) (z a : State) (u : ℕ) → Sound z → LocalRun p t es last → Run z es a → P z u → P a u
local_stays {P} keeps p t [] last z a u s l run phase = subst (λ y. P y u) (sym run) phase
local_stays {P} keeps p t (e ∷ es) last z a u s l run phase =
    local_stays keeps l.0 t es last run.0 a u (step_sound z e run.0 s run.1) l.2 run.2
    (keeps u z run.0 (calls_leave_cycle z s e run.0 u run.1 (local_no_cycle p e.call l.1.local)) phase)

-- and so does a call that is no step of a cycle
pub plain_free : (z : State) (e : Entry) (a : State) (t : ℕ) → Sound z → is_cycle_step e.call ≡ false → Step z e a → Free z t → Free a t
plain_free z e a t s plain step free = free_stays t z a (calls_leave_cycle z s e a t step plain) free

pub stage_stays : (c : Call) (left : ℕ) → StaysSo (InStage c left)
stage_stays call.Condemn left t y z stays m = marking_stays t y z stays m
stage_stays call.Finalise left t y z stays m = (m.0, settling_stays left t y z stays m.1)
stage_stays call.Reclaim left t y z stays m = settling_stays 0 t y z stays m
stage_stays _ left t y z stays m = absurd m

-- so the step may be made
pub stage_may : (c : Call) (left : ℕ) (z : State) (t : ℕ) → InStage c left z t → May z t c
stage_may call.Condemn left z t m = m
stage_may call.Finalise left z t m = (settling_may left z t m.1).0 m.0
stage_may call.Reclaim left z t m = (settling_may 0 z t m).1 refl
stage_may _ left z t m = absurd m

-- Begin
bare_busy : (r : Reply) → bare_reply r ≡ reply.Busy → r ≡ reply.Busy
bare_busy (reply.Condemned r) h = cc (h)
bare_busy (reply.Reclaimed r) h = cc (h)
bare_busy (reply.Settled r k) h = cc (h)
bare_busy r h = h

bare_begun : (r : Reply) → bare_reply r ≡ reply.Begun → r ≡ reply.Begun
bare_begun (reply.Condemned r) h = cc (h)
bare_begun (reply.Reclaimed r) h = cc (h)
bare_begun (reply.Settled r k) h = cc (h)
bare_begun r h = h

pub begins : (z a : State) (t : ℕ) (mode : Mode) (r : Reply) → Free z t → Step z (entry_of t (call.Begin mode) r) a → (b : Bool) × (r ≡ begun_reply b) × Opened b a t
begins z a t mode r free step = by (begin_step z t (bare_reply r) a mode free step)
  where
    by : ((bare_reply r ≡ reply.Busy) × Free a t) ⊎ ((bare_reply r ≡ reply.Begun) × Marking a t) → (b : Bool) × (r ≡ begun_reply b) × Opened b a t
    by (inl h) = (false, bare_busy r h.0, h.1)
    by (inr h) = (true, bare_begun r h.0, h.1)

-- a Reclaim tells what was reclaimed and kept
reclaim_tells : (z a : State) (t : ℕ) (r : Reply) → Happens z t call.Reclaim (bare_reply r) a → IsSettled r
reclaim_tells z a t reply.Busy h = absurd h.0
reclaim_tells z a t (reply.Settled gone kept) h = tt
reclaim_tells z a t _ h = absurd h.1

-- the other steps
pub closes_stage : (c : Call) (left : ℕ) (r : Reply) (z a : State) (t : ℕ) → InStage c left z t → Step z (entry_of t c r) a → OutStage c left (left_in a) a t × Tells c r
closes_stage call.Condemn left r z a t m step = (condemn_step z t (bare_reply r) a step, tt)
closes_stage call.Finalise left r z a t m step = (finalise_step z t (bare_reply r) a left m.1 step, tt)
closes_stage call.Reclaim left r z a t m step = (reclaim_step z t (bare_reply r) a step, reclaim_tells z a t r (plain_happens z (entry_of t call.Reclaim r) a step (λ id n. n) refl))
closes_stage _ left r z a t m step = absurd m
