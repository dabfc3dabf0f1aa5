-- What a turn at the gate makes of a session
use Rattle.std.proofs.Common.{◌≡◌, ℕ, zero, suc, false, List, [], ◌∷◌, ◌++◌, All, length, drop, Result, Ok, Err, IfOk, OnOk, OnErr, inl, inr, refl, sym, ap, subst, ◌∙◌, append_assoc, append-nil, arith}
use Rattle.std.proofs.Math.Seq.{drop-append_seam}
use mathlib.Core.List.{IsPrefix}
use Rattle.zone_model.specs.State.{State, opening}
use Rattle.zone_model.specs.declared.call.Call.{Call}
use Rattle.zone_model.specs.declared.call.Call.TheVariants as call
use Rattle.zone_model.specs.declared.entry.Entry.{Entry}
use Rattle.zone_model.specs.declared.entry.Reply.{Reply}
use Rattle.zone_model.specs.History.{Run, Ends, Legal, entries_of, is_cycle_step}
use Rattle.zone_model.specs.LocalSteps.{LocalRun}
use Rattle.zone_model.specs.Part.{Part, part_of}
use Rattle.zone_model.specs.Phases.{Free, May}
use Rattle.zone_model.proofs.Cycling.{free_stays}
use Rattle.zone_model.proofs.Soundness.{ends_sound, run_sound}
use Rattle.zone_gate.specs.declared.cut.Cut.{Cut}
use Rattle.zone_gate.specs.Shown.{GateShown, SeatShown, HeldShown, IsSeatOf, KeepsSeat, GrewBy, cut_of}
use Rattle.shared_heap.specs.Cycles.{black_in}
use Rattle.local_set.specs.Calls.{entry_of}
use Rattle.local_set.specs.LocalSets.{LocalSet, part_in}
use Rattle.escape_plan.specs.Together.{Belongs}
use Rattle.zone_escape.specs.Cores.{CoreShown, IsCore, BelongsTo}
use Rattle.zone_escape.specs.Publications.{Publishes, Flushed, Stepped, Untouched, Refused, is_leave}
use Rattle.auto_zone.specs.Sessions.{AlwaysIn, Always, SamePlace, CutOnce, Called, CalledOff, Synced, NotSynced}
use Rattle.auto_zone.specs.Shown.{StateOf, grey_in}
use Rattle.auto_zone.proofs.Cycling.{local_stays, plain_free}
use Rattle.auto_zone.proofs.Later.{split_run, still_belongs, StaysSo}
use Rattle.auto_zone.proofs.Locally.{always_solo}

-- what `hold` says of a seat and the value
pub record Took (s : SeatShown) (k : CoreShown) : Type 0 where
  pub begins : IsPrefix s.seen k.journal.entries
  pub mine : entries_of s.thread k.journal.entries ≡ s.own
  pub options : k.heap.options ≡ s.options

pub took : (g : GateShown) (s : SeatShown) (h k : CoreShown) → IsSeatOf g s → IsPrefix s.seen h.journal.entries → entries_of s.thread h.journal.entries ≡ s.own → h.heap.options ≡ g.options → k ≡ h → Took s k
took g s h k of begins mine options value = subst (Took s) (sym value) (record { begins = begins; mine = mine; options = options ∙ sym of.1 })

-- and `give_back` after it
pub record Turn (s u : SeatShown) (k n : CoreShown) : Type 0 where
  pub took : Took s k
  pub seen : u.seen ≡ n.journal.entries
  pub own : u.own ≡ s.own ++ drop (length k.journal.entries) n.journal.entries
  pub all : u.own ≡ entries_of s.thread n.journal.entries
  pub place : SamePlace s u
  pub chosen : u.options ≡ n.heap.options
  pub cut : Cut
  pub cuts : u.cuts ≡ s.cuts ++ cut ∷ []
  pub cut_is : cut ≡ cut_of (λ (y : CoreShown). black_in y.heap) (λ (y : CoreShown). grey_in y.heap) k n u.own

pub turn_of : (g : GateShown) (s u : SeatShown) (h : HeldShown CoreShown) (k n : CoreShown) → Took s k → IsSeatOf g s → KeepsSeat s h → h.was ≡ h.value → k ≡ h.value → n.heap.options ≡ k.heap.options
    → IsSeatOf g u → u.thread ≡ h.thread → u.seen ≡ n.journal.entries → u.own ≡ h.own ++ drop (length h.was.journal.entries) n.journal.entries → u.own ≡ entries_of h.thread n.journal.entries
    → u.cuts ≡ h.cuts ++ cut_of (λ (y : CoreShown). black_in y.heap) (λ (y : CoreShown). grey_in y.heap) h.was n u.own ∷ []
    → Turn s u k n
turn_of g s u h k n t of keeps was value options after thread seen grown all cuts =
    let before : h.was ≡ k = was ∙ sym value in
    record {
      took = t;
      seen = seen;
      own = grown ∙ ap (λ w. w ++ drop (length h.was.journal.entries) n.journal.entries) keeps.2 ∙ ap (λ (y : CoreShown). s.own ++ drop (length y.journal.entries) n.journal.entries) before;
      all = all ∙ ap (λ t. entries_of t n.journal.entries) keeps.1;
      place = record { gate = after.0 ∙ sym of.0; options = after.1 ∙ sym of.1; thread = thread ∙ keeps.1 };
      chosen = after.1 ∙ sym of.1 ∙ sym t.options ∙ sym options;
      cut = cut_of (λ (y : CoreShown). black_in y.heap) (λ (y : CoreShown). grey_in y.heap) k n u.own;
      cuts = cuts ∙ ap (λ w. w ++ cut_of (λ (y : CoreShown). black_in y.heap) (λ (y : CoreShown). grey_in y.heap) h.was n u.own ∷ []) keeps.3 ∙ ap (λ y. s.cuts ++ cut_of (λ (y : CoreShown). black_in y.heap) (λ (y : CoreShown). grey_in y.heap) y n u.own ∷ []) before;
      cut_is = refl;
    }

-- the value's list grew by entries of the thread
pub grew_at : (s : SeatShown) (h : HeldShown CoreShown) (l : LocalSet) (k n : CoreShown) → KeepsSeat s h → l.thread ≡ s.thread → h.was ≡ h.value → k ≡ h.value → GrewBy l.thread k.journal.entries n.journal.entries → GrewBy h.thread h.was.journal.entries n.journal.entries
grew_at s h l k n keeps thread was value grew =
    subst (λ t. GrewBy t h.was.journal.entries n.journal.entries) (thread ∙ sym keeps.1) (subst (λ (y : CoreShown). GrewBy l.thread y.journal.entries n.journal.entries) (value ∙ sym was) grew)

-- at the hold, the set belongs to the core's state, whatever others published
pub near : {P : State → ℕ → Type 0} → StaysSo P → (s : SeatShown) (l : LocalSet) (k : CoreShown) → AlwaysIn P s l → Took s k → (z : State) → StateOf k z → Belongs l z × P z s.thread
near keeps s l k always t z ends = still_belongs keeps s l k.journal.entries z always t.begins t.mine (subst (λ o. Ends o k.journal.entries z) t.options ends)

pub set_near : {P : State → ℕ → Type 0} → StaysSo P → (s : SeatShown) (l : LocalSet) (k : CoreShown) → AlwaysIn P s l → Took s k → (z : State) → StateOf k z → Belongs l z
set_near keeps s l k always t z ends = (near keeps s l k always t z ends).0

pub belongs_near : {P : State → ℕ → Type 0} → StaysSo P → (s : SeatShown) (l : LocalSet) (k : CoreShown) → AlwaysIn P s l → Took s k → BelongsTo l k
belongs_near keeps s l k always t z is = (near keeps s l k always t z is.ends).0

pub phase_near : {P : State → ℕ → Type 0} → StaysSo P → (s : SeatShown) (l : LocalSet) (k : CoreShown) → AlwaysIn P s l → Took s k → (z : State) → StateOf k z → P z l.thread
phase_near {P} keeps s l k always t z ends = subst (P z) (sym always.thread) (near keeps s l k always t z ends).1

-- where no cycle of the thread is open, it may make each call that goes on with none
pub may_call : (z : State) (t : ℕ) (c : Call) → is_cycle_step c ≡ false → Free z t → May z t c
may_call z t (call.Begin mode) kind free = free
may_call z t call.Condemn kind free = cc (kind)
may_call z t call.Finalise kind free = cc (kind)
may_call z t call.Reclaim kind free = cc (kind)
may_call z t call.Leave kind free = free
may_call z t _ kind free = tt

-- the waiting entries and these were published: the states between
pub record Ran (l m : LocalSet) (k n : CoreShown) (more : List Entry) : Type 0 where
  pub before : State
  pub mid : State
  pub last : State
  pub is : StateOf k before
  pub waited : Run before l.waiting mid
  pub run : Run mid more last
  pub ends : StateOf n last
  pub belongs : Belongs m last

ran : (l m : LocalSet) (k n : CoreShown) (es more : List Entry) → Publishes l m k n es → es ≡ l.waiting ++ more → IsCore n → Ran l m k n more
ran l m k n es more p parts core =
    let o = k.heap.options in
    let whole : Ends o (k.journal.entries ++ (l.waiting ++ more)) core.0 = subst (λ w. Ends o (k.journal.entries ++ w) core.0) parts (subst (λ w. Ends o w core.0) p.journal (subst (λ q. Ends q n.journal.entries core.0) p.options core.1.ends)) in
    let one = split_run (opening o) k.journal.entries (l.waiting ++ more) core.0 whole in
    let two = split_run one.0 l.waiting more core.0 one.2 in
    record { before = one.0; mid = two.0; last = core.0; is = one.1; waited = two.1; run = two.2; ends = core.1.ends; belongs = p.belongs core.0 core.1 }

pub flushed_ran : (l m : LocalSet) (k n : CoreShown) → Flushed l m k n → IsCore n → Ran l m k n []
flushed_ran l m k n f core = ran l m k n l.waiting [] f.published (sym (append-nil l.waiting)) core

pub stepped_ran : (l m : LocalSet) (k n : CoreShown) (c : Call) (r : Reply) → Stepped l m k n c r → IsCore n → Ran l m k n (entry_of l.thread c r ∷ [])
stepped_ran l m k n c r st core = ran l m k n (l.waiting ++ entry_of l.thread c r ∷ []) (entry_of l.thread c r ∷ []) st.published refl core

-- the options stay
pub refused_options : (l m : LocalSet) (k n : CoreShown) → Refused l m k n → n.heap.options ≡ k.heap.options
refused_options l m k n (inl x) = x.options
refused_options l m k n (inr f) = f.published.options

pub step_options : {E : Type 0} (r : Result Reply E) (l m : LocalSet) (k n : CoreShown) (c : Call) → IfOk r (λ x. Stepped l m k n c x) → OnErr r (Refused l m k n) → n.heap.options ≡ k.heap.options
step_options (Ok x) l m k n c ok err = ok.published.options
step_options (Err e) l m k n c ok err = refused_options l m k n err

pub flush_options : {U E : Type 0} (r : Result U E) (l m : LocalSet) (k n : CoreShown) → OnOk r (Flushed l m k n) → OnErr r (Untouched l m k n) → n.heap.options ≡ k.heap.options
flush_options (Ok x) l m k n ok err = ok.published.options
flush_options (Err e) l m k n ok err = err.options

-- the entries of a run of a thread are its own
run_threads : (p : Part) (t : ℕ) (es : List Entry) (last : Part) → LocalRun p t es last → All (λ e. e.thread ≡ t) es
run_threads p t [] last run k d m = absurd (omega (arith, m))
run_threads p t (e ∷ es) last run zero d m = run.1.thread
run_threads p t (e ∷ es) last run (suc k) d m = run_threads run.0 t es last run.2 k d (omega (arith, m))

threads_more : (t : ℕ) (es : List Entry) (e : Entry) → All (λ e. e.thread ≡ t) es → e.thread ≡ t → All (λ e. e.thread ≡ t) (es ++ e ∷ [])
threads_more t [] e all one zero d m = one
threads_more t [] e all one (suc k) d m = absurd (omega (arith, m))
threads_more t (x ∷ es) e all one zero d m = all 0 d (omega arith)
threads_more t (x ∷ es) e all one (suc k) d m = threads_more t es e (λ j b n. all (suc j) b (omega (arith, n))) one k d (omega (arith, m))

none_thread : (t : ℕ) → All (λ (e : Entry). e.thread ≡ t) []
none_thread t k d m = absurd (omega (arith, m))

pub same_grew : (t : ℕ) (k n : List Entry) → n ≡ k → GrewBy t k n
same_grew t k n same = ([], same ∙ sym (append-nil k), none_thread t)

-- of the set l, which belongs to each state of the core k
module _ (l m : LocalSet) (k n : CoreShown) (belongs : (z : State) → StateOf k z → Belongs l z) (core : IsCore n) where
  waiting_threads : (z : State) → StateOf k z → All (λ e. e.thread ≡ l.thread) l.waiting
  waiting_threads z ends = run_threads (part_of z l.thread) l.thread l.waiting (part_in l) (belongs z ends).run

  flushed_grew : Flushed l m k n → GrewBy l.thread k.journal.entries n.journal.entries
  flushed_grew f = let r = flushed_ran l m k n f core in (l.waiting, f.published.journal, waiting_threads r.before r.is)

  pub stepped_grew : (c : Call) (r : Reply) → Stepped l m k n c r → GrewBy l.thread k.journal.entries n.journal.entries
  stepped_grew c r st =
      let a = stepped_ran l m k n c r st core in
      let e = entry_of l.thread c r in
      (l.waiting ++ e ∷ [], st.published.journal, threads_more l.thread l.waiting e (waiting_threads a.before a.is) refl)

  pub refused_grew : Refused l m k n → GrewBy l.thread k.journal.entries n.journal.entries
  refused_grew (inl x) = same_grew l.thread k.journal.entries n.journal.entries x.journal
  refused_grew (inr f) = flushed_grew f

  pub step_grew : {E : Type 0} (r : Result Reply E) (c : Call) → IfOk r (λ x. Stepped l m k n c x) → OnErr r (Refused l m k n) → GrewBy l.thread k.journal.entries n.journal.entries
  step_grew (Ok x) c ok err = stepped_grew c x ok
  step_grew (Err e) c ok err = refused_grew err

  pub flush_grew : {U E : Type 0} (r : Result U E) → OnOk r (Flushed l m k n) → OnErr r (Untouched l m k n) → GrewBy l.thread k.journal.entries n.journal.entries
  flush_grew (Ok x) ok err = flushed_grew ok
  flush_grew (Err e) ok err = same_grew l.thread k.journal.entries n.journal.entries err.journal

module _ {P : State → ℕ → Type 0} (keeps : StaysSo P) (s u : SeatShown) (l m : LocalSet) (k n : CoreShown) (always : AlwaysIn P s l) (turn : Turn s u k n) where
  pub now : (z : State) → StateOf k z → Belongs l z × P z s.thread
  now z ends = near keeps s l k always turn.took z ends

  -- the phase after what waited
  pub waited_phase : (more : List Entry) (r : Ran l m k n more) → P r.mid s.thread
  waited_phase more r =
      let at = now r.before r.is in
      local_stays keeps (part_of r.before l.thread) l.thread l.waiting (part_in l) r.before r.mid s.thread (ends_sound k.heap.options k.journal.entries r.before r.is) at.0.run r.waited at.1

  -- what holds of a session after a turn
  pub after : {Q : State → ℕ → Type 0} (a : State) → StateOf n a → Belongs m a → Q a s.thread → m.thread ≡ l.thread → m.ended ≡ false → AlwaysIn Q u m
  after {Q} a ends belongs phase thread running = record {
    state = a;
    ends = subst (λ o. Ends o u.seen a) (sym turn.chosen) (subst (λ es. Ends n.heap.options es a) (sym turn.seen) ends);
    own = ap (λ t. entries_of t u.seen) turn.place.thread ∙ ap (entries_of s.thread) turn.seen ∙ sym turn.all;
    thread = thread ∙ always.thread ∙ sym turn.place.thread;
    belongs = belongs;
    phase = subst (Q a) (sym turn.place.thread) phase;
    running = running;
  }

  cut_once : CutOnce s u
  cut_once = (turn.cut, turn.cuts, ap (λ (x : Cut). x.length) turn.cut_is)

  pub begins_on : (more : List Entry) → n.journal.entries ≡ k.journal.entries ++ more → IsPrefix s.seen u.seen
  begins_on more grew = (
    turn.took.begins.0 ++ more,
    sym (append_assoc s.seen turn.took.begins.0 more) ∙ ap (λ w. w ++ more) turn.took.begins.1 ∙ sym grew ∙ sym turn.seen,
  )

  pub own_on : (more : List Entry) → n.journal.entries ≡ k.journal.entries ++ more → u.own ≡ s.own ++ more
  own_on more grew = turn.own ∙ ap (λ w. s.own ++ drop (length k.journal.entries) w) grew ∙ ap (λ w. s.own ++ w) (drop-append_seam k.journal.entries more)

  pub called : (c : Call) (r : Reply) → Stepped l m k n c r → Called s u l m c r
  called c r st =
      let e = entry_of l.thread c r in
      let e_is : e ≡ entry_of s.thread c r = ap (λ t. entry_of t c r) always.thread in
      let grew : n.journal.entries ≡ k.journal.entries ++ (l.waiting ++ e ∷ []) = st.published.journal in
      record {
        own = own_on (l.waiting ++ e ∷ []) grew ∙ sym (append_assoc s.own l.waiting (e ∷ [])) ∙ ap (λ x. (s.own ++ l.waiting) ++ x ∷ []) e_is;
        out = st.published.out;
        begins = begins_on (l.waiting ++ e ∷ []) grew;
        ends = (k.journal.entries ++ l.waiting, turn.seen ∙ grew ∙ sym (append_assoc k.journal.entries l.waiting (e ∷ [])) ∙ ap (λ x. (k.journal.entries ++ l.waiting) ++ x ∷ []) e_is);
        cut = cut_once;
        solo = always_solo s l always;
      }

  synced : Flushed l m k n → Synced s u l m
  synced f = record { own = own_on l.waiting f.published.journal; out = f.published.out; part = f.part; begins = begins_on l.waiting f.published.journal; cut = cut_once; solo = always_solo s l always }

  same_grown : Untouched l m k n → n.journal.entries ≡ k.journal.entries ++ []
  same_grown x = x.journal ∙ sym (append-nil k.journal.entries)

  not_synced : Untouched l m k n → NotSynced s u l m
  not_synced x = record { own = own_on [] (same_grown x) ∙ append-nil s.own; local = x.local; begins = begins_on [] (same_grown x); cut = cut_once }

  pub off_refused : Refused l m k n → CalledOff s u l m
  off_refused (inl x) = record {
    own = ap (λ w. w ++ m.waiting) (own_on [] (same_grown x) ∙ append-nil s.own) ∙ ap (λ (y : LocalSet). s.own ++ y.waiting) x.local;
    part = ap part_in x.local;
    begins = begins_on [] (same_grown x);
    cut = cut_once;
  }
  off_refused (inr f) = record {
    own = ap (λ w. u.own ++ w) f.published.out ∙ append-nil u.own ∙ own_on l.waiting f.published.journal;
    part = f.part;
    begins = begins_on l.waiting f.published.journal;
    cut = cut_once;
  }

  pub step_called : {E : Type 0} (r : Result Reply E) (c : Call) → IfOk r (λ x. Stepped l m k n c x) → IfOk r (λ x. Called s u l m c x)
  step_called (Ok x) c ok = called c x ok
  step_called (Err e) c ok = tt

  pub step_off : {E : Type 0} (r : Result Reply E) → OnErr r (Refused l m k n) → OnErr r (CalledOff s u l m)
  step_off (Ok x) err = tt
  step_off (Err e) err = off_refused err

  pub flush_synced : {U E : Type 0} (r : Result U E) → OnOk r (Flushed l m k n) → OnOk r (Synced s u l m)
  flush_synced (Ok x) ok = synced ok
  flush_synced (Err e) ok = tt

  pub flush_off : {U E : Type 0} (r : Result U E) → OnErr r (Untouched l m k n) → OnErr r (NotSynced s u l m)
  flush_off (Ok x) err = tt
  flush_off (Err e) err = not_synced err

  -- a turn that made no call leaves the session in its phase
  pub after_untouched : Legal n.heap.options n.journal.entries → Untouched l m k n → AlwaysIn P u m
  after_untouched legal x =
      let z = legal.0 in
      let was : StateOf k z = subst (λ o. Ends o k.journal.entries z) x.options (subst (λ es. Ends n.heap.options es z) x.journal legal.1) in
      let at = now z was in
      after z legal.1 (subst (λ y. Belongs y z) (sym x.local) at.0) at.1 (ap (λ (y : LocalSet). y.thread) x.local) (ap (λ (y : LocalSet). y.ended) x.local ∙ always.running)

  after_flushed : IsCore n → Flushed l m k n → AlwaysIn P u m
  after_flushed core f =
      let r = flushed_ran l m k n f core in
      after r.last r.ends r.belongs (subst (λ y. P y s.thread) (sym r.run) (waited_phase [] r)) f.published.thread (ap (λ (p : Part). p.ended) f.part ∙ always.running)

  pub after_refused : Legal n.heap.options n.journal.entries → IsCore n → Refused l m k n → AlwaysIn P u m
  after_refused legal core (inl x) = after_untouched legal x
  after_refused legal core (inr f) = after_flushed core f

  pub after_flush : {U E : Type 0} (r : Result U E) → Legal n.heap.options n.journal.entries → IsCore n → OnOk r (Flushed l m k n) → OnErr r (Untouched l m k n) → AlwaysIn P u m
  after_flush (Ok x) legal core ok err = after_flushed core ok
  after_flush (Err e) legal core ok err = after_untouched legal err

  pub after_last : {E : Type 0} (r : Result Reply E) → Legal n.heap.options n.journal.entries → IsCore n → OnErr r (Refused l m k n) → OnErr r (AlwaysIn P u m)
  after_last (Ok x) legal core err = tt
  after_last (Err e) legal core err = after_refused legal core err

module _ (s u : SeatShown) (l m : LocalSet) (k n : CoreShown) (always : Always s l) (turn : Turn s u k n) where
  after_stepped : (c : Call) (r : Reply) → is_cycle_step c ≡ false → is_leave c ≡ false → IsCore n → Stepped l m k n c r → Always u m
  after_stepped c r kind stays core st =
      let a = stepped_ran l m k n c r st core in
      let free = waited_phase free_stays s u l m k n always turn (entry_of l.thread c r ∷ []) a in
      let sound = run_sound a.before l.waiting a.mid (ends_sound k.heap.options k.journal.entries a.before a.is) a.waited in
      after free_stays s u l m k n always turn a.last a.ends a.belongs
      (subst (λ y. Free y s.thread) (sym a.run.2) (plain_free a.mid (entry_of l.thread c r) a.run.0 s.thread sound kind a.run.1 free)) st.published.thread (st.ended ∙ stays)

  pub after_step : {E : Type 0} (r : Result Reply E) (c : Call) → is_cycle_step c ≡ false → is_leave c ≡ false → Legal n.heap.options n.journal.entries → IsCore n → IfOk r (λ x. Stepped l m k n c x) → OnErr r (Refused l m k n) → Always u m
  after_step (Ok x) c kind stays legal core ok err = after_stepped c x kind stays core ok
  after_step (Err e) c kind stays legal core ok err = after_refused free_stays s u l m k n always turn legal core err
