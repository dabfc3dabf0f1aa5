-- A turn in a session's own cycle
use Rattle.std.proofs.Common.{◌≡◌, ◌≤◌, ◌-◌, ℕ, Bool, true, false, [], ◌∷◌, ◌++◌, length, Result, Ok, Err, IfOk, OnErr, refl, true≢false, sym, ap, subst, ◌∙◌, append-nil, arith}
use Rattle.az_base.specs.declared.action.Mode.{Mode}
use Rattle.zone_model.specs.State.{State}
use Rattle.zone_model.specs.declared.call.Call.{Call}
use Rattle.zone_model.specs.declared.call.Call.TheVariants as call
use Rattle.zone_model.specs.declared.entry.Reply.{Reply}
use Rattle.zone_model.specs.declared.entry.Reply.TheVariants as reply
use Rattle.zone_model.specs.Step.{Step}
use Rattle.zone_model.specs.History.{Ends, Legal}
use Rattle.zone_model.specs.Part.{Part, part_of, is_local}
use Rattle.zone_model.specs.Phases.{Free, Marking, is_closing, left_in}
use Rattle.zone_model.proofs.Cycling.{free_stays, marking_stays}
use Rattle.zone_model.proofs.Soundness.{ends_sound}
use Rattle.zone_gate.specs.declared.cut.Cut.{Cut}
use Rattle.zone_gate.specs.Shown.{SeatShown, GrewBy}
use Rattle.zone_history.specs.Journals.{Recorded}
use Rattle.shared_heap.specs.Cycles.{black_in}
use Rattle.local_set.specs.Calls.{entry_of}
use Rattle.local_set.specs.LocalSets.{LocalSet, part_in}
use Rattle.escape_plan.specs.Together.{Belongs}
use Rattle.zone_escape.specs.Cores.{CoreShown, IsCore}
use Rattle.zone_escape.specs.Publications.{Stepped, Refused, is_leave}
use Rattle.auto_zone.specs.Sessions.{AlwaysIn, Always, Called, CalledOff}
use Rattle.auto_zone.specs.Shown.{StateOf, grey_in}
use Rattle.auto_zone.specs.Collects.{OneSlice, Greyless, IsNarrow}
use Rattle.auto_zone.specs.Stages.{InStage, OutStage, Opened, Tells, begun_reply, is_begun}
use Rattle.auto_zone.proofs.Cycling.{stage_stays, closes_stage, begins, local_stays}
use Rattle.auto_zone.proofs.Turning.{Turn, Ran, stepped_ran, waited_phase, after, after_refused, called, stepped_grew, refused_grew, off_refused, refused_options, now, own_on, begins_on}

-- the phase alone changes its words
pub in_phase : {P Q : State → ℕ → Type 0} (s : SeatShown) (l : LocalSet) → ((z : State) → P z s.thread → Q z s.thread) → AlwaysIn P s l → AlwaysIn Q s l
in_phase s l f a = record { state = a.state; ends = a.ends; own = a.own; thread = a.thread; belongs = a.belongs; phase = f a.state a.phase; running = a.running }

pub stage_closing : (c : Call) (left : ℕ) (z : State) (t : ℕ) → InStage c left z t → is_closing c ≡ true
stage_closing call.Condemn left z t m = refl
stage_closing call.Finalise left z t m = refl
stage_closing call.Reclaim left z t m = refl
stage_closing _ left z t m = absurd m

stage_remains : (c : Call) (left : ℕ) (z : State) (t : ℕ) → InStage c left z t → is_leave c ≡ false
stage_remains call.Condemn left z t m = refl
stage_remains call.Finalise left z t m = refl
stage_remains call.Reclaim left z t m = refl
stage_remains _ left z t m = absurd m

-- no step of a cycle is local
pub closing_shared : (c : Call) (p : Part) → is_closing c ≡ true → is_local p c ≡ false
closing_shared call.Condemn p h = refl
closing_shared call.Finalise p h = refl
closing_shared call.Reclaim p h = refl
closing_shared _ p h = cc (h)

-- a step of a cycle that was begun
module _ (c : Call) (left : ℕ) (s u : SeatShown) (l m : LocalSet) (k n : CoreShown) (always : AlwaysIn (InStage c left) s l) (turn : Turn s u k n) (r : Reply) (core : IsCore n) (st : Stepped l m k n c r) where
  is_ran : Ran l m k n (entry_of l.thread c r ∷ [])
  is_ran = stepped_ran l m k n c r st core

  made : OutStage c left (left_in is_ran.run.0) is_ran.run.0 s.thread × Tells c r
  made =
      let stage = waited_phase (stage_stays c left) s u l m k n always turn (entry_of l.thread c r ∷ []) is_ran in
      closes_stage c left r is_ran.mid is_ran.run.0 s.thread stage (subst (λ t. Step is_ran.mid (entry_of t c r) is_ran.run.0) always.thread is_ran.run.1)

  pub closed_tells : Tells c r
  closed_tells = made.1

  pub after_closing : (next : ℕ) → ((z : State) → StateOf n z → next ≡ left_in z) → AlwaysIn (OutStage c left next) u m
  after_closing next tells =
      let a = is_ran.last in
      let there : OutStage c left (left_in a) a s.thread = subst (λ y. OutStage c left (left_in y) y s.thread) (sym is_ran.run.2) made.0 in
      after (stage_stays c left) s u l m k n always turn a is_ran.ends is_ran.belongs (subst (λ x. OutStage c left x a s.thread) (sym (tells a is_ran.ends)) there) st.published.thread
      (st.ended ∙ stage_remains c left always.state s.thread always.phase)

-- Begin
same_begun : (a b : Bool) → begun_reply a ≡ begun_reply b → a ≡ b
same_begun true true h = refl
same_begun true false h = cc (h)
same_begun false true h = cc (h)
same_begun false false h = refl

module _ (mode : Mode) (s u : SeatShown) (l m : LocalSet) (k n : CoreShown) where
  pub begin_grew : {E : Type 0} (r : Result Bool E) → ((z : State) → StateOf k z → Belongs l z) → IsCore n → IfOk r (λ b. Stepped l m k n (call.Begin mode) (begun_reply b)) → OnErr r (Refused l m k n) → GrewBy l.thread k.journal.entries n.journal.entries
  begin_grew (Ok b) near core ok err = stepped_grew l m k n near core (call.Begin mode) (begun_reply b) ok
  begin_grew (Err e) near core ok err = refused_grew l m k n near core err

  module _ (always : Always s l) (turn : Turn s u k n) (core : IsCore n) where
    after_begun : (b : Bool) → Stepped l m k n (call.Begin mode) (begun_reply b) → AlwaysIn (Opened b) u m
    after_begun b st =
        let e = entry_of l.thread (call.Begin mode) (begun_reply b) in
        let a = stepped_ran l m k n (call.Begin mode) (begun_reply b) st core in
        let free = waited_phase free_stays s u l m k n always turn (e ∷ []) a in
        let went = begins a.mid a.run.0 s.thread mode (begun_reply b) free (subst (λ t. Step a.mid (entry_of t (call.Begin mode) (begun_reply b)) a.run.0) always.thread a.run.1) in
        let open_now : Opened b a.run.0 s.thread = subst (λ x. Opened x a.run.0 s.thread) (sym (same_begun b went.0 went.1)) went.2 in
        after free_stays s u l m k n always turn a.last a.ends a.belongs (subst (λ y. Opened b y s.thread) (sym a.run.2) open_now) st.published.thread st.ended

    pub begin_phase : {E : Type 0} (r : Result Bool E) → IfOk r (λ b. Stepped l m k n (call.Begin mode) (begun_reply b)) → IfOk r (λ b. AlwaysIn (Opened b) u m)
    begin_phase (Ok b) ok = after_begun b ok
    begin_phase (Err e) ok = tt

    pub begin_refused : {E : Type 0} (r : Result Bool E) → Legal n.heap.options n.journal.entries → OnErr r (Refused l m k n) → OnErr r (Always u m)
    begin_refused (Ok b) legal err = tt
    begin_refused (Err e) legal err = after_refused free_stays s u l m k n always turn legal core err

    pub begin_called : {E : Type 0} (r : Result Bool E) → IfOk r (λ b. Stepped l m k n (call.Begin mode) (begun_reply b)) → IfOk r (λ b. Called s u l m (call.Begin mode) (begun_reply b))
    begin_called (Ok b) ok = called free_stays s u l m k n always turn (call.Begin mode) (begun_reply b) ok
    begin_called (Err e) ok = tt

    pub begin_off : {E : Type 0} (r : Result Bool E) → OnErr r (Refused l m k n) → OnErr r (CalledOff s u l m)
    begin_off (Ok b) err = tt
    begin_off (Err e) err = off_refused free_stays s u l m k n always turn err

pub begin_options : {E : Type 0} (mode : Mode) (r : Result Bool E) (l m : LocalSet) (k n : CoreShown) → IfOk r (λ b. Stepped l m k n (call.Begin mode) (begun_reply b)) → OnErr r (Refused l m k n) → n.heap.options ≡ k.heap.options
begin_options mode (Ok b) l m k n ok err = ok.published.options
begin_options mode (Err e) l m k n ok err = refused_options l m k n err

-- what a Begin answers
pub begun_ok : (mode : Mode) (l m : LocalSet) (k n : CoreShown) (r : Reply) → ((z : State) → StateOf k z → Belongs l z × Free z l.thread) → IsCore n → Stepped l m k n (call.Begin mode) r → (b : Bool) × (r ≡ begun_reply b)
begun_ok mode l m k n r near core st =
    let a = stepped_ran l m k n (call.Begin mode) r st core in
    let at = near a.before a.is in
    let free = local_stays free_stays (part_of a.before l.thread) l.thread l.waiting (part_in l) a.before a.mid l.thread (ends_sound k.heap.options k.journal.entries a.before a.is) at.0.run a.waited at.1 in
    let went = begins a.mid a.run.0 l.thread mode r free a.run.1 in
    (went.0, went.1)

begun_told : (b : Bool) (r : Reply) → r ≡ begun_reply b → r ≡ begun_reply (is_begun r)
begun_told true r is = is ∙ ap (λ x. begun_reply (is_begun x)) (sym is)
begun_told false r is = is ∙ ap (λ x. begun_reply (is_begun x)) (sym is)

pub begun_stepped : (mode : Mode) (l m : LocalSet) (k n : CoreShown) (r : Reply) → ((z : State) → StateOf k z → Belongs l z × Free z l.thread) → IsCore n → Stepped l m k n (call.Begin mode) r → Stepped l m k n (call.Begin mode) (begun_reply (is_begun r))
begun_stepped mode l m k n r near core st = let b = begun_ok mode l m k n r near core st in subst (Stepped l m k n (call.Begin mode)) (begun_told b.0 r b.1) st

pub is_begun_so : (r : Reply) → is_begun r ≡ true → r ≡ reply.Begun
is_begun_so reply.Begun h = refl
is_begun_so _ h = absurd (true≢false (sym h))

-- a slice
pub after_slice : (s u : SeatShown) (l : LocalSet) (k n : CoreShown) → AlwaysIn Marking s l → Turn s u k n → n.journal ≡ k.journal → n.heap.options ≡ k.heap.options → Legal n.heap.options n.journal.entries → AlwaysIn Marking u l
after_slice s u l k n always turn list options legal =
    let z = legal.0 in
    let was : StateOf k z = subst (λ o. Ends o k.journal.entries z) options (subst (λ j. Ends n.heap.options j.entries z) list legal.1) in
    let at = now marking_stays s u l l k n always turn z was in
    after marking_stays s u l l k n always turn z legal.1 at.0 at.1 refl always.running

-- the cut of a slice
pub sliced : (s u : SeatShown) (l : LocalSet) (k n : CoreShown) (budget : ℕ) (done : Bool) → AlwaysIn Marking s l → Turn s u k n → n.journal ≡ k.journal → black_in n.heap - black_in k.heap ≤ budget → (done ≡ true → grey_in n.heap ≡ 0) → OneSlice s u budget done
sliced s u l k n budget done always turn same scanned grey =
    let grew : n.journal.entries ≡ k.journal.entries ++ [] = ap (λ (j : Recorded). j.entries) same ∙ sym (append-nil k.journal.entries) in
    let own : u.own ≡ s.own ++ [] = own_on marking_stays s u l l k n always turn [] grew in (
      turn.cut,
      record { place = turn.place; own = own; begins = begins_on marking_stays s u l l k n always turn [] grew; cuts = turn.cuts },
      (
        ap (λ (x : Cut). x.length) turn.cut_is ∙ ap length (own ∙ append-nil s.own),
        subst (λ (x : Cut). x.scanned ≤ budget) (sym turn.cut_is) scanned,
      ),
      greyless done grey,
    )
  where
    greyless : (b : Bool) → (b ≡ true → grey_in n.heap ≡ 0) → Greyless b turn.cut
    greyless true h = ap (λ (x : Cut). x.grey) turn.cut_is ∙ h refl
    greyless false h = tt

-- and of a Begin
zero_minus : (a b : ℕ) → a ≡ 0 → a - b ≡ 0
zero_minus a b h = omega (arith, h)

pub narrow : {E : Type 0} (s u : SeatShown) (k n : CoreShown) (r : Result Bool E) → Turn s u k n → IfOk r (λ b. b ≡ true → black_in n.heap ≡ 0) → IfOk r (λ b. IsNarrow b s u)
narrow s u k n (Ok b) turn white = λ is. (turn.cut, turn.cuts, ap (λ (x : Cut). x.length) turn.cut_is, ap (λ (x : Cut). x.scanned) turn.cut_is ∙ zero_minus (black_in n.heap) (black_in k.heap) (white is))
narrow s u k n (Err e) turn white = tt
