-- What the calls of a thread leave of the open cycle
use Rattle.std.proofs.Common.{◌≡◌, ◌==◌, ℕ, Bool, true, false, MatchBool, Option, Some, None, length, refl, sym, subst, ◌∙◌, inl, inr, Result, Ok, Err, IfOk, OnErr}
use Rattle.az_base.specs.declared.misuse.NoMemory.{NoMemory}
use Rattle.zone_model.specs.declared.call.Call.{Call}
use Rattle.zone_model.specs.declared.entry.Reply.{Reply}
use Rattle.zone_model.specs.declared.entry.Reply.TheVariants as reply
use Rattle.zone_model.specs.History.{is_cycle_step}
use Rattle.zone_model.specs.Part.{is_local}
use Rattle.zone_model.specs.Phases.{Free}
use Rattle.zone_model.specs.State.{Cycle}
use Rattle.zone_model.proofs.OthersCycles.{stays_same}
use Rattle.local_set.specs.Calls.{Made}
use Rattle.local_set.specs.LocalSets.{LocalSet, part_in}
use Rattle.zone_escape.specs.Cores.{CoreShown, IsCore, BelongsTo}
use Rattle.zone_escape.specs.Publications.{Flushed, Stepped, Refused, LeavesCycle, CyclesStay}
use Rattle.zone_escape.proofs.Phases.{flushed_stays, stepped_stays, untouched_stays}
use Rattle.play_core.specs.Turning.{MakesRoom, Turned, Stopped}
use Rattle.play_core.specs.Worlds.{WorldShown, AtEnd, IsQuiet}
use Rattle.play_core.specs.Worlds as world

same_core : (k n : CoreShown) → n ≡ k → CyclesStay k n
same_core k n same = subst (CyclesStay k) (sym same) (λ a ends. (a, ends, λ t. stays_same t a))

-- of the set l, which is m after it
module _ (l m : LocalSet) (k n : CoreShown) (is : IsCore k) (belongs : BelongsTo l k) where
  turned_stays : (c : Call) (r : Reply) → Turned l m k n c r → LeavesCycle c r → CyclesStay k n
  turned_stays c r turned leaves = by (is_local (part_in l) c) turned
    where
      room : (mid : LocalSet) → (b : Bool) → MatchBool b (Flushed l mid k n) ((mid ≡ l) × (n ≡ k)) → CyclesStay k n
      room mid true f = flushed_stays l mid k n is belongs f
      room mid false s = same_core k n s.1

      by : (b : Bool) → MatchBool b ((mid : LocalSet) × MakesRoom l mid k n × Made mid m c r) (Stepped l m k n c r) → CyclesStay k n
      by true h = room h.0 (length l.waiting == l.options.pending) h.1
      by false h = stepped_stays l m k n is belongs c r leaves h

  stopped_stays : Stopped l m k n → CyclesStay k n
  stopped_stays s = by s.1
    where
      by : Refused l s.0 k n → CyclesStay k n
      by (inl u) = untouched_stays l s.0 k n is u
      by (inr f) = flushed_stays l s.0 k n is belongs f

  pub ok_stays : (r : Result Reply NoMemory) (c : Call) → IfOk r (λ reply. Turned l m k n c reply) → IfOk r (λ reply. LeavesCycle c reply → CyclesStay k n)
  ok_stays (Ok reply) c ok = turned_stays c reply ok
  ok_stays (Err e) c ok = tt

  pub err_stays : (r : Result Reply NoMemory) → OnErr r (Stopped l m k n) → OnErr r (CyclesStay k n)
  err_stays (Ok reply) err = tt
  err_stays (Err e) err = stopped_stays err

-- where no cycle was open, none is
pub quiet_still : (old new : WorldShown) → world.CyclesStay old new → IsQuiet old → IsQuiet new
quiet_still old new stays quiet a ends = by a.cycle refl
  where
    by : (o : Option Cycle) → a.cycle ≡ o → a.cycle ≡ None
    by None e = e
    by (Some c) e =
        let before = stays a ends in
        let d = (before.2 c.owner).before c (e, refl) in
        let no : None ≡ Some d.0 = sym (quiet before.0 before.1) ∙ d.1.0 in
        cc (no)

-- and so no thread has one
pub quiet_free : (w : WorldShown) (t : ℕ) → IsQuiet w → AtEnd w (λ z. Free z t)
quiet_free w t quiet z ends c has = let no : None ≡ Some c = sym (quiet z ends) ∙ has.0 in cc (no)

-- a call that is no step of a cycle leaves the open one, whatever it replies
pub plain_leaves : (c : Call) (r : Reply) → is_cycle_step c ≡ false → LeavesCycle c r
plain_leaves c reply.Busy quiet = tt
plain_leaves c (reply.Done) quiet = quiet
plain_leaves c (reply.Block b) quiet = quiet
plain_leaves c (reply.Number n) quiet = quiet
plain_leaves c (reply.Begun) quiet = quiet
plain_leaves c (reply.Condemned r) quiet = quiet
plain_leaves c (reply.Finalised b) quiet = quiet
plain_leaves c (reply.Reclaimed r) quiet = quiet
plain_leaves c (reply.Settled r k) quiet = quiet
plain_leaves c (reply.Stats s) quiet = quiet
plain_leaves c (reply.Misuse m) quiet = quiet
