-- What a thread publishes leaves each open cycle, and so what a thread may do
use Rattle.std.proofs.Common.{◌≡◌, ℕ, Bool, true, false, cond, ◌||◌, List, [], ◌∷◌, ◌++◌, Some, IsTrue, find, refl, sym, ap, ap₂, subst, ◌∙◌, true≢false, ◌⊎◌, inl, inr}
use Rattle.std.specs.List.{list_any}
use Rattle.std.specs.Ordering.{is_eq}
use Rattle.std.specs.Cmp.{tied_itself}
use Rattle.az_base.specs.declared.block_id.BlockId.{BlockId}
use Rattle.az_base.specs.declared.options.Options.{Options}
use Rattle.az_base.specs.Ids.{same_id, among, ids_total}
use Rattle.zone_model.specs.declared.call.Call.{Call}
use Rattle.zone_model.specs.declared.call.Call.TheVariants as call
use Rattle.zone_model.specs.declared.entry.Entry.{Entry}
use Rattle.zone_model.specs.declared.entry.Reply.{Reply}
use Rattle.zone_model.specs.declared.entry.Reply.TheVariants as reply
use Rattle.zone_model.specs.Bare.{bare_reply}
use Rattle.zone_model.specs.Collection.{awaits}
use Rattle.zone_model.specs.History.{Run, Ends, NoCollection, is_cycle_step}
use Rattle.zone_model.specs.LocalSteps.{LocalRun}
use Rattle.zone_model.specs.Part.{Part, part_of, is_local}
use Rattle.zone_model.specs.Phases.{CycleStays, May}
use Rattle.zone_model.specs.Replies.{replied}
use Rattle.zone_model.specs.Sound.{Sound}
use Rattle.zone_model.specs.State.{State, opening}
use Rattle.zone_model.specs.Step.{Step}
use Rattle.zone_model.proofs.Cycling.{free_stays, marking_stays}
use Rattle.zone_model.proofs.Determined.{run_determined}
use Rattle.zone_model.proofs.OthersCycles.{stays_same, stays_on}
use Rattle.zone_model.proofs.SoundLaws.{calls_leave_cycle}
use Rattle.zone_model.proofs.Soundness.{step_sound, run_sound}
use Rattle.zone_model.proofs.Steps.{plain_happens}
use Rattle.zone_model.proofs.WeakRuns.{run_parts}
use Rattle.local_set.specs.Calls.{entry_of}
use Rattle.local_set.specs.LocalSets.{LocalSet, part_in}
use Rattle.zone_escape.specs.Cores.{CoreShown, IsCore, IsCoreOf, BelongsTo}
use Rattle.zone_escape.specs.Publications.{Flushed, Stepped, Untouched, LeavesCycle, CyclesStay}

-- two tests that agree on the list's ids find the same
find_same : (f g : BlockId → Bool) (xs : List BlockId) → ((b : BlockId) → IsTrue (among xs b) → f b ≡ g b) → find f xs ≡ find g xs
find_same f g [] same = refl
find_same f g (x ∷ xs) same =
    let rest = find_same f g xs (λ b m. same b (or_second (same_id b x) (among xs b) m)) in
    ap (λ t. cond t (Some x) (find f xs)) (same x (or_first (same_id x x) (among xs x) (ap is_eq (tied_itself ids_total x)))) ∙ ap (λ o. cond (g x) (Some x) o) rest
  where
    or_first : (a b : Bool) → IsTrue a → IsTrue (a || b)
    or_first true b h = refl
    or_first false b h = absurd (true≢false (sym h))

    or_second : (a b : Bool) → IsTrue b → IsTrue (a || b)
    or_second true b h = refl
    or_second false b h = h

-- where a thread's cycle stays, it may do what it might
pub may_stays : (t : ℕ) (y z : State) (c : Call) → CycleStays t y z → May y t c → May z t c
may_stays t y z (call.Begin mode) stays may = free_stays t y z stays may
may_stays t y z call.Condemn stays may = marking_stays t y z stays may
may_stays t y z call.Finalise stays may =
    let d = stays.still may.1.0 may.1.1 in
    (may.0, (d.0, d.1, d.2.condemned ∙ may.1.2), may.2, find_same (awaits z) (awaits y) may.0 (λ b m. d.2.left may.0 b may.1.2 m) ∙ may.3)
may_stays t y z call.Reclaim stays may =
    let d = stays.still may.1.0 may.1.1 in
    (may.0, (d.0, d.1, d.2.condemned ∙ may.1.2), find_same (awaits z) (awaits y) may.0 (λ b m. d.2.left may.0 b may.1.2 m) ∙ may.2)
may_stays t y z call.Leave stays may = free_stays t y z stays may
may_stays t y z _ stays may = tt

-- a local call is no step of a cycle
local_quiet : (p : Part) (c : Call) → is_local p c ≡ true → is_cycle_step c ≡ false
local_quiet p (call.Begin mode) h = absurd (true≢false (sym h))
local_quiet p call.Condemn h = absurd (true≢false (sym h))
local_quiet p call.Finalise h = absurd (true≢false (sym h))
local_quiet p call.Reclaim h = absurd (true≢false (sym h))
local_quiet p _ h = refl

local_run_quiet : (p : Part) (t : ℕ) (es : List Entry) (last : Part) → LocalRun p t es last → NoCollection es
local_run_quiet p t [] last run = refl
local_run_quiet p t (e ∷ es) last run = ap₂ (λ a b. a || b) (local_quiet p e.call run.1.local) (local_run_quiet run.0 t es last run.2)

neither : (a b : Bool) → (a || b) ≡ false → (a ≡ false) × (b ≡ false)
neither true b h = absurd (true≢false h)
neither false b h = (refl, h)

-- entries that are no steps of a cycle leave each
quiet_run_stays : (z : State) (es : List Entry) (a : State) (t : ℕ) → Sound z → Run z es a → NoCollection es → CycleStays t z a
quiet_run_stays z [] a t s run none = subst (CycleStays t z) (sym run) (stays_same t z)
quiet_run_stays z (e ∷ es) a t s run none =
    let b = neither (is_cycle_step e.call) (list_any (λ e. is_cycle_step e.call) es) none in
    stays_on t z run.0 a (calls_leave_cycle z s e run.0 t run.1 b.0) (quiet_run_stays run.0 es a t (step_sound z e run.0 s run.1) run.2 b.1)

-- the entries that came behind the others are a run from the state before them
run_since : (o : Options) (before es : List Entry) (z a : State) → Ends o before z → Ends o (before ++ es) a → Run z es a
run_since o before es z a is also =
    let parts = run_parts (opening o) before es a also in
    subst (λ y. Run y es a) (run_determined (opening o) before parts.0 z parts.1 is) parts.2

-- an entry that is no step of a cycle, or busy, leaves each
does_leave : (c : Call) (r : Reply) → LeavesCycle c r → (is_cycle_step c ≡ false) ⊎ (bare_reply r ≡ reply.Busy)
does_leave c reply.Busy h = inr refl
does_leave c (reply.Done) h = inl h
does_leave c (reply.Block b) h = inl h
does_leave c (reply.Number n) h = inl h
does_leave c (reply.Begun) h = inl h
does_leave c (reply.Condemned r) h = inl h
does_leave c (reply.Finalised b) h = inl h
does_leave c (reply.Reclaimed r) h = inl h
does_leave c (reply.Settled r k) h = inl h
does_leave c (reply.Stats s) h = inl h
does_leave c (reply.Misuse m) h = inl h

busy_same : (z : State) (t : ℕ) (c : Call) (a : State) → is_cycle_step c ≡ true → Step z (replied t c reply.Busy) a → a ≡ z
busy_same z t (call.Begin mode) a cycle step = (plain_happens z (replied t (call.Begin mode) reply.Busy) a step (λ id n. n) refl).1
busy_same z t call.Condemn a cycle step = absurd (plain_happens z (replied t call.Condemn reply.Busy) a step (λ id n. n) refl).0
busy_same z t call.Finalise a cycle step = absurd (plain_happens z (replied t call.Finalise reply.Busy) a step (λ id n. n) refl).0
busy_same z t call.Reclaim a cycle step = absurd (plain_happens z (replied t call.Reclaim reply.Busy) a step (λ id n. n) refl).0
busy_same z t _ a cycle step = absurd (true≢false (sym cycle))

left_step : (z : State) → Sound z → (u : ℕ) (c : Call) (r : Reply) (a : State) → Step z (entry_of u c r) a → (is_cycle_step c ≡ false) ⊎ (bare_reply r ≡ reply.Busy) → (t : ℕ) → CycleStays t z a
left_step z s u c r a step (inl quiet) t = calls_leave_cycle z s (entry_of u c r) a t step quiet
left_step z s u c r a step (inr busy) t = by (is_cycle_step c) refl
  where
    by : (b : Bool) → is_cycle_step c ≡ b → CycleStays t z a
    by false e = calls_leave_cycle z s (entry_of u c r) a t step e
    by true e = subst (CycleStays t z) (sym (busy_same z u c a e (subst (λ x. Step z (replied u c x) a) busy step))) (stays_same t z)

module _ (l m : LocalSet) (k n : CoreShown) (is : IsCore k) (belongs : BelongsTo l k) where
  own_quiet : NoCollection l.waiting
  own_quiet = local_run_quiet (part_of is.0 l.thread) l.thread l.waiting (part_in l) (belongs is.0 is.1).run

  there : (es : List Entry) (a : State) → n.heap.options ≡ k.heap.options → n.journal.entries ≡ k.journal.entries ++ es → Ends n.heap.options n.journal.entries a → Run is.0 es a
  there es a options journal ends = run_since k.heap.options k.journal.entries es is.0 a is.1.ends (subst (λ (o : Options). Ends o (k.journal.entries ++ es) a) options (subst (λ (xs : List Entry). Ends n.heap.options xs a) journal ends))

  -- what waits leaves each cycle
  pub flushed_stays : Flushed l m k n → CyclesStay k n
  flushed_stays f a ends = (is.0, is.1.ends, λ t. quiet_run_stays is.0 l.waiting a t is.1.heap.sound (there l.waiting a f.published.options f.published.journal ends) own_quiet)

  -- and so does a call that is no step of a cycle, or busy
  pub stepped_stays : (c : Call) (r : Reply) → LeavesCycle c r → Stepped l m k n c r → CyclesStay k n
  stepped_stays c r leaves s a ends =
      let own = entry_of l.thread c r in
      let run = run_parts is.0 l.waiting (own ∷ []) a (there (l.waiting ++ own ∷ []) a s.published.options s.published.journal ends) in
      let last = subst (λ y. Step run.0 own y) (sym run.2.2) run.2.1 in (
        is.0,
        is.1.ends,
        λ t. stays_on t is.0 run.0 a (quiet_run_stays is.0 l.waiting run.0 t is.1.heap.sound run.1 own_quiet)
            (left_step run.0 (run_sound is.0 l.waiting run.0 is.1.heap.sound run.1) l.thread c r a last (does_leave c r leaves) t),
      )

-- where nothing has changed, each cycle stays
pub untouched_stays : (l m : LocalSet) (k n : CoreShown) → IsCore k → Untouched l m k n → CyclesStay k n
untouched_stays l m k n is u a ends =
    let there = subst (λ (o : Options). Ends o k.journal.entries a) u.options (subst (λ (xs : List Entry). Ends n.heap.options xs a) u.journal ends) in
    (a, there, λ t. stays_same t a)

-- and so each thread may do what it might
pub may_still : (k n : CoreShown) (t : ℕ) (c : Call) → IsCore k → CyclesStay k n → ((z : State) → IsCoreOf k z → May z t c) → (a : State) → IsCoreOf n a → May a t c
may_still k n t c is stays may a also =
    let before = stays a also.ends in
    let same = run_determined (opening k.heap.options) k.journal.entries is.0 before.0 is.1.ends before.1 in
    may_stays t before.0 a c (before.2 t) (subst (λ z. May z t c) same (may is.0 is.1))
