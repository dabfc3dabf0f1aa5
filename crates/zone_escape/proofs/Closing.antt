-- What the steps that go on with a cycle make of the heap
use Rattle.std.proofs.Common.{◌≡◌, ◌<◌, ◌≤◌, ◌+◌, ◌-◌, ℕ, false, cond, List, Option, Some, None, IfSome, IsSome, IsTrue, is_some, option_map, length, filter, refl, sym, ap, subst, ◌∙◌, arith}
use Rattle.std.specs.Option.{option_map_or, option_and_then}
use Rattle.std.specs.FinMap.{empty}
use Rattle.az_base.specs.declared.block_id.BlockId.{BlockId}
use Rattle.az_base.specs.Ids.{among}
use Rattle.zone_model.specs.declared.call.Call.TheVariants as call
use Rattle.zone_model.specs.declared.entry.Reply.{Reply}
use Rattle.zone_model.specs.declared.entry.Reply.TheVariants as reply
use Rattle.zone_model.specs.Collection.{HasCondemned, awaits}
use Rattle.zone_model.specs.InRange.{CallInRange}
use Rattle.zone_model.specs.Part.{Part, is_local}
use Rattle.zone_model.specs.Phases.{May, left_in, left_among}
use Rattle.zone_model.specs.Room.{WithRoom}
use Rattle.zone_model.specs.Sound.{Sound}
use Rattle.zone_model.specs.State.{State, Cycle}
use Rattle.zone_model.specs.Step.{Step}
use Rattle.heap_cycle.specs.Collector.{Collecting}
use Rattle.shared_heap.specs.Cycles.{AfterCondemn, AfterFinalise, AfterReclaim, Condemned, IsMarking, IsNext, IsSettling, Reclaimed, finalised}
use Rattle.shared_heap.specs.Shared.{Shared, finalisers_left}
use Rattle.shared_heap.specs.Stands.{Stands}
use Rattle.shared_heap.specs.Steps as shared
use Rattle.shared_heap.proofs.Collecting.{heap_cycle, marking_of, settling_of}
use Rattle.zone_escape.specs.declared.cycles.Closing.{Closing}
use Rattle.zone_escape.specs.declared.cycles.Closing.TheVariants as closing
use Rattle.zone_escape.specs.Answers.{IsPlain}
use Rattle.zone_escape.specs.Cores.{HasLists, lists_of, steps_left, steps_of}
use Rattle.zone_escape.specs.Cycles.{GoesOn, IsClosing, call_of}
use Rattle.zone_escape.specs.Publications.{is_leave}
use Rattle.zone_escape.proofs.Advancing.{happens_of}
use Rattle.zone_escape.proofs.Lengths.{no_longer}
use Rattle.zone_escape.proofs.Lent.{lending, lent, of_cycle}
use Rattle.zone_escape.proofs.Phased.{found, found_none}

-- what a Finalise replies
pub finalises : (h k : Shared) (r : Reply) → AfterFinalise h r k → IsPlain r × (b : BlockId) × IsNext h b × (k ≡ finalised h b)
finalises h k (reply.Finalised b) after = (tt, b, after.0, after.1)
finalises h k _ after = absurd after

-- of what the code has found the reply to be
pub condemned_is : (h g k : Shared) (r : Reply) (ids : WithRoom) → g ≡ lent h → r ≡ reply.Condemned ids → AfterCondemn g r k → Condemned (lent h) ids.list k
condemned_is h g k r ids once is after = subst (λ (s : Shared). Condemned s ids.list k) once (subst (λ (x : Reply). AfterCondemn g x k) is after)

pub reclaimed_is : (g k : Shared) (r : Reply) (gone kept : WithRoom) → r ≡ reply.Settled gone kept → AfterReclaim g r k → Reclaimed g gone.list k
reclaimed_is g k r gone kept is after = subst (λ (x : Reply). AfterReclaim g x k) is after

pub reclaim_is : (k : Shared) (z : State) (u t : ℕ) (r : Reply) (gone kept : WithRoom) → u ≡ t → r ≡ reply.Settled gone kept → shared.Stepped k z u call.Reclaim r → (a : State) × Step z (record { thread = t; call = call.Reclaim; reply = reply.Settled gone kept }) a
reclaim_is k z u t r gone kept same is s = (s.0, subst (λ (x : Reply). Step z (record { thread = t; call = call.Reclaim; reply = x }) s.0) is (subst (λ n. Step z (record { thread = n; call = call.Reclaim; reply = r }) s.0) same s.1))

-- what is left of the open cycle's entries and lists afterwards
pub record LeavesLess (h k : Shared) : Type 0 where
  pub left : steps_left k + 1 ≤ steps_left h
  pub closing : IsClosing k
  pub lists : HasLists k

some_cycle : (f g : Collecting) → Some f ≡ Some g → f ≡ g
some_cycle f g e = cc (e)

-- a cycle that isn't condemned, and one that is
marking_steps : (g : Collecting) → g.condemned ≡ None → steps_of g ≡ g.left + 2
marking_steps g none = ap (λ (o : Option (List BlockId)). cond (is_some o) (g.left + 1) (g.left + 2)) none

marking_lists : (g : Collecting) → g.condemned ≡ None → lists_of g ≡ 3
marking_lists g none = ap (λ (o : Option (List BlockId)). cond {A = ℕ} (is_some o) 2 3) none

pub settling_lists : (g : Collecting) (r : List BlockId) → g.condemned ≡ Some r → lists_of g ≡ 2
settling_lists g r some = ap (λ (o : Option (List BlockId)). cond {A = ℕ} (is_some o) 2 3) some

settling_steps : (g : Collecting) (r : List BlockId) → g.condemned ≡ Some r → steps_of g ≡ g.left + 1
settling_steps g r some = ap (λ (o : Option (List BlockId)). cond (is_some o) (g.left + 1) (g.left + 2)) some

settling_left : (h : Shared) (g : Collecting) (r : List BlockId) → h.gc.cycle ≡ Some g → g.condemned ≡ Some r → finalisers_left h ≡ g.left
settling_left h g r is some = ap (λ o. option_map_or (λ (g : Collecting). cond (is_some g.condemned) g.left 0) o 0) is ∙ ap (λ (o : Option (List BlockId)). cond (is_some o) g.left 0) some

left_of : (h : Shared) (g : Collecting) → h.gc.cycle ≡ Some g → steps_left h ≡ steps_of g
left_of h g is = ap (λ o. option_map_or steps_of o 0) is

-- how many lists there are to lend
pub marking_rooms : (h : Shared) (t : ℕ) (m : IsMarking h t) → HasLists h → m.0.rooms ≡ 3
marking_rooms h t m lists = of_cycle h m.0 (λ g. g.rooms ≡ lists_of g) m.1.0 lists ∙ marking_lists m.0 m.2

pub settling_rooms : (h : Shared) (t : ℕ) (m : IsSettling h t) → HasLists h → m.0.rooms ≡ 2
settling_rooms h t m lists = of_cycle h m.0 (λ g. g.rooms ≡ lists_of g) m.2.0 lists ∙ settling_lists m.0 m.1 m.3

-- once a list was lent, the cycle is condemned
module _ (h k : Shared) (t : ℕ) (m : IsMarking h t) (lists : HasLists h) (r : List BlockId) (after : Condemned (lent h) r k) where
  was : after.before ≡ lending m.0
  was = some_cycle after.before (lending m.0) (sym after.was ∙ ap (option_map lending) m.1.0)

  abbrev now : Collecting
  now = record after.before { shades = empty; condemned = Some r; left = after.left }

  is_now : k.gc.cycle ≡ Some now
  is_now = ap (λ (s : Shared). s.gc.cycle) after.is

  pub condemned_less : LeavesLess h k
  condemned_less = record {
    left =
        let before : steps_left h ≡ m.0.left + 2 = left_of h m.0 m.1.0 ∙ marking_steps m.0 m.2 in
        let then : steps_left k ≡ after.left + 1 = left_of k now is_now in
        let same : after.before.left ≡ m.0.left = ap (λ (g : Collecting). g.left) was in
        let few = after.foreseen in
        omega (arith, before, then, same, few);
    closing = subst (λ (o : Option Collecting). IfSome o (λ g. IsSome g.condemned)) (sym is_now) refl;
    lists =
        let rooms : after.before.rooms ≡ 2 = ap (λ (g : Collecting). g.rooms) was ∙ ap (λ n. n - 1) (marking_rooms h t m lists) in
        subst (λ (o : Option Collecting). IfSome o (λ g. g.rooms ≡ lists_of g)) (sym is_now) rooms;
  }

  -- the condemned blocks are no more than the start
  pub condemned_few : length r ≤ length m.0.start
  condemned_few = no_longer r m.0.start after.ascending (λ b i. subst (λ (g : Collecting). IsTrue (among g.start b)) was (after.start b i))

-- a finaliser has run
module _ (h k : Shared) (t : ℕ) (m : IsSettling h t) (lists : HasLists h) (b : BlockId) (after : k ≡ finalised h b) where
  abbrev less : Collecting
  less = record m.0 { left = m.0.left - 1 }

  is_less : k.gc.cycle ≡ Some less
  is_less = ap (λ (s : Shared). s.gc.cycle) after ∙ ap (option_map (λ (g : Collecting). record g { left = g.left - 1 })) m.2.0

  pub finalised_less : 0 < finalisers_left h → LeavesLess h k
  finalised_less more = record {
    left =
        let before : steps_left h ≡ m.0.left + 1 = left_of h m.0 m.2.0 ∙ settling_steps m.0 m.1 m.3 in
        let then : steps_left k ≡ (m.0.left - 1) + 1 = left_of k less is_less ∙ settling_steps less m.1 m.3 in
        let some : 0 < m.0.left = subst (λ n. 0 < n) (settling_left h m.0 m.1 m.2.0 m.3) more in
        omega (arith, before, then, some);
    closing = subst (λ (o : Option Collecting). IfSome o (λ g. IsSome g.condemned)) (sym is_less) (ap is_some m.3);
    lists = subst (λ (o : Option Collecting). IfSome o (λ g. g.rooms ≡ lists_of g)) (sym is_less) (of_cycle h m.0 (λ g. g.rooms ≡ lists_of g) m.2.0 lists);
  }

-- the cycle is closed
pub reclaimed_less : (h k : Shared) (t : ℕ) → IsSettling h t → finalisers_left h ≡ 0 → k.gc.cycle ≡ None → LeavesLess h k
reclaimed_less h k t m none closed = record {
  left =
      let before : steps_left h ≡ m.0.left + 1 = left_of h m.0 m.2.0 ∙ settling_steps m.0 m.1 m.3 in
      let then : steps_left k ≡ 0 = ap (λ o. option_map_or steps_of o 0) closed in
      omega (arith, before, then);
  closing = subst (λ (o : Option Collecting). IfSome o (λ g. IsSome g.condemned)) (sym closed) tt;
  lists = subst (λ (o : Option Collecting). IfSome o (λ g. g.rooms ≡ lists_of g)) (sym closed) tt;
}

-- what is reclaimed and what is kept is of the start
module _ (h : Shared) (z : State) (t : ℕ) (stands : Stands h z) (sound : Sound z) (m : IsSettling h t) (gone kept : WithRoom) (a : State) (step : Step z (record { thread = t; call = call.Reclaim; reply = reply.Settled gone kept }) a) where
  started : (r : List BlockId) → HasCondemned z t r → (b : BlockId) → IsTrue (among r b) → IsTrue (among m.0.start b)
  started r has b i =
      let f = heap_cycle h.gc.cycle has.0 z.cycle stands.cycle has.1.0 in
      let condemned = ap (λ (o : Option Cycle). option_map_or (λ (r : List BlockId). among r b) (option_and_then (λ (c : Cycle). c.condemned) o) false) has.1.0 ∙ ap (λ (o : Option (List BlockId)). option_map_or (λ (r : List BlockId). among r b) o false) has.2 ∙ i in
      let begun = sym (ap (λ (o : Option Cycle). option_map_or (λ (c : Cycle). c.start b) o false) has.1.0) ∙ sound.cycle.condemned b condemned in
      ap (λ (g : Collecting). among g.start b) (some_cycle m.0 f.0 (sym m.2.0 ∙ f.1)) ∙ sym (f.2.start b) ∙ begun

  pub gone_few : length gone.list ≤ length m.0.start
  gone_few = let e = (happens_of z t call.Reclaim (reply.Settled gone kept) a refl step).1 in no_longer gone.list m.0.start e.gone_ones.0 (λ b i. started e.r e.condemned b ((e.gone_ones.1 b).0 i).0)

  pub kept_few : length kept.list ≤ length m.0.start
  kept_few = let e = (happens_of z t call.Reclaim (reply.Settled gone kept) a refl step).1 in no_longer kept.list m.0.start e.kept_ones.0 (λ b i. started e.r e.condemned b ((e.kept_ones.1 b).0 i).0)

-- a thread that may make the step in the state has its cycle where the step goes on
left_condemned : (z : State) (t : ℕ) (r : List BlockId) → HasCondemned z t r → left_in z ≡ length (filter (awaits z) r)
left_condemned z t r has = ap (λ (o : Option Cycle). left_among z (option_and_then (λ (c : Cycle). c.condemned) o)) has.1.0 ∙ ap (left_among z) has.2

pub goes_on : (h : Shared) (z : State) (t : ℕ) (c : Closing) → Stands h z → finalisers_left h ≡ left_in z → May z t (call_of c) → GoesOn h t c
goes_on h z t closing.Condemn s left may = marking_of h z t s may
goes_on h z t closing.Finalise s left may = (settling_of h z t may.0 s may.1, subst (λ n. 0 < n) (sym (left ∙ left_condemned z t may.0 may.1)) (found (awaits z) may.0 may.2 may.3))
goes_on h z t closing.Reclaim s left may = (settling_of h z t may.0 s may.1, left ∙ left_condemned z t may.0 may.1 ∙ found_none (awaits z) may.0 may.2)

-- such a step isn't local, names nothing out of range, and ends no thread
pub closing_shared : (p : Part) (c : Closing) → is_local p (call_of c) ≡ false
closing_shared p closing.Condemn = refl
closing_shared p closing.Finalise = refl
closing_shared p closing.Reclaim = refl

pub closing_range : (c : Closing) → CallInRange (call_of c)
closing_range closing.Condemn = tt
closing_range closing.Finalise = tt
closing_range closing.Reclaim = tt

pub closing_ends : (c : Closing) → is_leave (call_of c) ≡ false
closing_ends closing.Condemn = refl
closing_ends closing.Finalise = refl
closing_ends closing.Reclaim = refl
