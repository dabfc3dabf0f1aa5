-- The laws, over sound states
use Rattle.std.proofs.Common.{◌≡◌, ℕ, ◌==◌, true, false, List, inl, IsTrue, sym, ap, ◌∙◌, subst, Some}
use Rattle.std.specs.Option.{option_map_or}
use Rattle.az_base.specs.declared.block_id.BlockId.{BlockId}
use Rattle.az_base.specs.Ids.{among}
use Rattle.zone_model.specs.declared.call.Call.TheVariants as call
use Rattle.zone_model.specs.declared.entry.Entry.{Entry}
use Rattle.zone_model.specs.declared.entry.Reply.TheVariants as reply
use Rattle.zone_model.specs.Room.{WithRoom}
use Rattle.zone_model.specs.State.{State, Cycle}
use Rattle.zone_model.specs.Reach.{AnchoredFor}
use Rattle.zone_model.specs.Collection.{HasCycle}
use Rattle.zone_model.specs.Step.{Step}
use Rattle.zone_model.specs.History.{Run, is_cycle_step}
use Rattle.zone_model.specs.Part.{Part, part_of, PartStep, is_local}
use Rattle.zone_model.specs.LocalSteps.{LocalStep, LocalRun}
use Rattle.zone_model.specs.SameShared.{SameShared}
use Rattle.zone_model.specs.Waits.{Waiter, Waits, waiting_of}
use Rattle.zone_model.specs.Phases.{CycleStays, NoneOf}
use Rattle.zone_model.specs.Replies.{replied}
use Rattle.zone_model.specs.Sound.{Sound, is_started}
use Rattle.zone_model.proofs.Soundness.{sound_intact, sound_made}
use Rattle.zone_model.proofs.PartSteps.{step_own, step_others}
use Rattle.zone_model.proofs.LocalCalls.{local_step, step_local}
use Rattle.zone_model.proofs.Sharing.{step_shared}
use Rattle.zone_model.proofs.Waiting.{local_run, all_waiting}
use Rattle.zone_model.proofs.OthersCycles.{step_stays, run_stays}
use Rattle.zone_model.proofs.AtOnce.{condemn_takes, condemned_unanchored}
use Rattle.zone_model.proofs.Moments.{the_cycle}

module _ (z : State) (s : Sound z) where
  -- a step makes of its thread's part what the entry says, and leaves the others
  pub own_part : (e : Entry) (a : State) → Step z e a → PartStep (part_of z e.thread) e.call e.reply (part_of a e.thread)
  own_part e a step = step_own z e a (sound_intact z s) (sound_made z s) step

  pub others_parts : (e : Entry) (a : State) → Step z e a → (u : ℕ) → (e.thread == u) ≡ false → part_of a u ≡ part_of z u
  others_parts e a step u other = step_others z e a (sound_intact z s) (sound_made z s) step u other

  -- local steps in both directions
  pub to_local : (e : Entry) (a : State) → Step z e a → is_local (part_of z e.thread) e.call ≡ true → LocalStep (part_of z e.thread) e.thread e (part_of a e.thread)
  to_local e a step local = step_local z (sound_intact z s) (sound_made z s) e a step local

  pub from_local : (t : ℕ) (e : Entry) (after : Part) → LocalStep (part_of z t) t e after → (a : State) × Step z e a × (part_of a t ≡ after)
  from_local t e after step = local_step z (sound_intact z s) (sound_made z s) t e after step

  -- a local step changes nothing that is shared
  pub local_shares : (e : Entry) (a : State) → Step z e a → is_local (part_of z e.thread) e.call ≡ true → SameShared z a
  local_shares e a step local = step_shared z (sound_intact z s) (sound_made z s) e a step local

  -- waiting entries are steps
  pub waiting_run : (t : ℕ) (es : List Entry) (last : Part) → LocalRun (part_of z t) t es last
      → (after : State) × Run z es after × (part_of after t ≡ last) × ((u : ℕ) → (t == u) ≡ false → part_of after u ≡ part_of z u) × SameShared z after
  waiting_run t es last run = let r = local_run z t es last (sound_intact z s) (sound_made z s) run in (r.after, r.run, r.part, r.others, r.shared)

  pub all_waiting_run : (ws : List Waiter) → Waits z ws → (after : State) × Run z (waiting_of ws) after
  all_waiting_run ws waits = all_waiting z ws (sound_intact z s) (sound_made z s) waits

  -- what others do, and calls that are no step of a cycle, leave a thread's cycle
  pub others_leave_cycle : (es : List Entry) (a : State) (t : ℕ) → Run z es a → NoneOf t es → CycleStays t z a
  others_leave_cycle es a t run none = run_stays z es a t (sound_intact z s) (sound_made z s) run none

  pub calls_leave_cycle : (e : Entry) (a : State) (t : ℕ) → Step z e a → is_cycle_step e.call ≡ false → CycleStays t z a
  calls_leave_cycle e a t step apart = step_stays z e a t (sound_intact z s) (sound_made z s) step (inl apart)

  -- no condemned block is anchored
  pub condemned_not_anchored : (a : State) (t : ℕ) (c : Cycle) (r : WithRoom) → HasCycle z t c → Step z (replied t call.Condemn (reply.Condemned r)) a → (b : BlockId) → IsTrue (among r.list b) → ¬ AnchoredFor c.mode z b
  condemned_not_anchored a t c r has step b in_r =
      let takes = condemn_takes z a t r step in
      let same : takes.0 ≡ c = the_cycle takes.0 c (sym takes.1.0 ∙ has.0) in
      subst (λ c. ¬ AnchoredFor c.mode z b) same (condemned_unanchored z takes.0 r.list takes.2 (λ q i. s.cycle.started q (started takes.0 takes.1.0 q i)) b in_r)
    where
      started : (c : Cycle) → z.cycle ≡ Some c → (q : BlockId) → IsTrue (c.start q) → IsTrue (is_started z q)
      started c is q i = ap (λ o. option_map_or (λ (c : Cycle). c.start q) o false) is ∙ i
