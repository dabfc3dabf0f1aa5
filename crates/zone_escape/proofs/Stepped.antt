-- A core after a thread's step
use Rattle.std.proofs.Common.{◌≡◌, ℕ, ◌==◌, true, false, List, [], ◌∷◌, ◌++◌, MatchOption, Option, Some, None, Result, Ok, Err, OnErr, refl, sym, ap, subst, ◌∙◌, append_assoc, true≢false}
use Rattle.az_base.specs.declared.action.Mode.{Mode}
use Rattle.az_base.specs.declared.misuse.Misuse.{Misuse}
use Rattle.az_base.specs.declared.options.Options.{Options}
use Rattle.zone_model.specs.declared.call.Call.{Call}
use Rattle.zone_model.specs.declared.call.Call.TheVariants as call
use Rattle.zone_model.specs.declared.entry.Entry.{Entry}
use Rattle.zone_model.specs.declared.entry.Reply.{Reply}
use Rattle.zone_model.specs.declared.entry.Reply.TheVariants as reply
use Rattle.zone_model.specs.Bare.{bare_reply, bare_entry}
use Rattle.zone_model.specs.Effect.{Effect}
use Rattle.zone_model.specs.Escape.{with_escaped}
use Rattle.zone_model.specs.History.{Run, Ends, is_cycle_step}
use Rattle.zone_model.specs.InRange.{CallInRange}
use Rattle.zone_model.specs.Misuses.{misuse_of}
use Rattle.zone_model.specs.Phases.{Free, May}
use Rattle.zone_model.specs.Part.{Part, part_of, part_after, leave_part, is_local, PartStep}
use Rattle.zone_model.specs.State.{State, opening}
use Rattle.zone_model.specs.Step.{Step, Happens}
use Rattle.zone_model.proofs.Ranges.{step_ranges}
use Rattle.zone_model.proofs.Runs.{run_more}
use Rattle.zone_model.proofs.SoundLaws.{own_part, others_parts}
use Rattle.heap_cycle.specs.Collector.{Collecting}
use Rattle.shared_heap.specs.Cycles.{IsOpenOf}
use Rattle.shared_heap.specs.Shared.{Shared}
use Rattle.shared_heap.proofs.Collecting.{none_of}
use Rattle.zone_history.specs.Journals.{Recorded}
use Rattle.local_set.specs.Calls.{entry_of}
use Rattle.local_set.specs.LocalSets.{LocalSet, part_in}
use Rattle.escape_plan.specs.Escapes.{KeepsCycle}
use Rattle.escape_plan.specs.Together.{Belongs, Together}
use Rattle.escape_plan.proofs.Belonging.{part_is}
use Rattle.zone_escape.specs.Answers.{IsPlain}
use Rattle.zone_escape.specs.Cores.{CoreShown, IsCore, IsCoreOf, BelongsTo, HasLists, steps_left}
use Rattle.zone_escape.specs.Cycles.{Advances}
use Rattle.zone_escape.specs.Making.{CanMake, Makes, Stays}
use Rattle.zone_escape.specs.Publications.{Flushed, Stepped, is_leave}
use Rattle.zone_escape.proofs.Published.{core_once}
use Rattle.zone_escape.proofs.Phases.{may_still, flushed_stays}
use Rattle.zone_escape.proofs.OpenCycles.{keeps_steps, keeps_lists}

pub not_leave : (c : Call) → (c ≡ call.Leave → ⊥) → is_leave c ≡ false
not_leave call.Leave h = absurd (h refl)
not_leave _ h = refl

-- which calls reply lists
plain_effect : (p : Part) (y : State) (t : ℕ) (c : Call) (r : Reply) (mid : State) → is_cycle_step c ≡ false → is_leave c ≡ false → is_local p c ≡ false → Effect y t c r mid → IsPlain r
plain_effect p y t call.Condemn (reply.Condemned r) mid quiet stays shared e = cc (quiet)
plain_effect p y t _ (reply.Condemned r) mid quiet stays shared e = absurd e
plain_effect p y t call.CollectLocal (reply.Reclaimed gone) mid quiet stays shared e = cc (shared)
plain_effect p y t call.Leave (reply.Reclaimed gone) mid quiet stays shared e = cc (stays)
plain_effect p y t _ (reply.Reclaimed gone) mid quiet stays shared e = absurd e
plain_effect p y t call.Reclaim (reply.Settled gone kept) mid quiet stays shared e = cc (quiet)
plain_effect p y t _ (reply.Settled gone kept) mid quiet stays shared e = absurd e
plain_effect p y t c _ mid quiet stays shared e = tt

plain_bare : (r : Reply) → IsPlain (bare_reply r) → IsPlain r
plain_bare (reply.Condemned r) p = p
plain_bare (reply.Reclaimed gone) p = p
plain_bare (reply.Settled gone kept) p = p
plain_bare _ p = tt

-- so the reply of another call than a leave takes no memory
pub plain_step : (z : State) (t : ℕ) (c : Call) (r : Reply) (a : State) → is_cycle_step c ≡ false → is_leave c ≡ false → is_local (part_of z t) c ≡ false → Step z (entry_of t c r) a → IsPlain r
plain_step z t c r a quiet stays shared step = plain_bare r (go (misuse_of z t c step.need) step.does)
  where
    happens : (s : Reply) → Happens (with_escaped z step.need) t c s a → IsPlain s
    happens reply.Busy h = tt
    happens s h = plain_effect (part_of z t) (with_escaped z step.need) t c s h.0 quiet stays shared h.1

    go : (m : Option Misuse) → MatchOption m (Happens (with_escaped z step.need) t c (bare_reply r) a) (λ m. (bare_reply r ≡ reply.Misuse m) × (a ≡ z)) → IsPlain (bare_reply r)
    go None h = happens (bare_reply r) h
    go (Some m) h = subst IsPlain (sym h.0) tt

-- and leaves the thread running
after_ended : (p : Part) (c : Call) (r : Reply) → is_leave c ≡ false → (part_after p c r).ended ≡ p.ended
after_ended p (call.New to layout actions) (reply.Block id) stays = refl
after_ended p (call.Load to from at) (reply.Block b) stays = refl
after_ended p (call.GetRoot to root) (reply.Block b) stays = refl
after_ended p (call.Take to id) (reply.Block b) stays = refl
after_ended p (call.GetAssoc to object key) (reply.Block b) stays = refl
after_ended p (call.ReadWeak to loc) (reply.Block b) stays = refl
after_ended p (call.Store into at from) reply.Done stays = refl
after_ended p (call.Put into at number) reply.Done stays = refl
after_ended p (call.Copy to from) reply.Done stays = refl
after_ended p (call.DropReg reg) reply.Done stays = refl
after_ended p call.CollectLocal (reply.Reclaimed gone) stays = refl
after_ended p call.Leave (reply.Reclaimed gone) stays = cc (stays)
after_ended p _ _ stays = refl

part_ended : (p : Part) (c : Call) (r : Reply) (after : Part) → is_leave c ≡ false → PartStep p c r after → after.ended ≡ p.ended
part_ended p c (reply.Misuse m) after stays s = ap (λ (p : Part). p.ended) s
part_ended p c reply.Busy after stays s = ap (λ (p : Part). p.ended) s
part_ended p c r after stays s = ap (λ (p : Part). p.ended) s.2 ∙ after_ended (leave_part p s.0) c r stays

-- of a thread that has made such a call
module _ (l m : LocalSet) (h k : Shared) (c : Call) (r : Reply) (can : CanMake l h c) (quiet : is_cycle_step c ≡ false) (stays : is_leave c ≡ false) (made : Makes l m h k c r) where
  same_part : part_in l ≡ part_of can.together.0 l.thread
  same_part = part_is l can.together.0 can.together.1.local can.out

  pub replied_plain : IsPlain r
  replied_plain =
      let step = made.step can.together.0 can.together.1 in
      plain_step can.together.0 l.thread c r step.0 quiet stays (ap (λ p. is_local p c) (sym same_part) ∙ can.shared) step.1

  pub still_running : m.ended ≡ false
  still_running =
      let z = can.together.0 in
      let step = made.step z can.together.1 in
      ap (λ (p : Part). p.ended) (part_is m step.0 step.2.local made.waiting ∙ ap (part_of step.0) made.thread)
      ∙ part_ended (part_of z l.thread) c (bare_reply r) (part_of step.0 l.thread) stays (own_part z can.together.1.heap.sound _ step.0 step.1)
      ∙ ap (λ (p : Part). p.ended) (sym same_part) ∙ can.running

-- a set that belongs to a core belongs together with its heap
pub core_together : (l : LocalSet) (k : CoreShown) (z : State) → Belongs l z → IsCoreOf k z → Together l k.heap z
core_together l k z b is = record { local = b; heap = is.heap; room = is.room }

-- a thread that may leave has no open cycle
leave_free : (z : State) (t : ℕ) (c : Call) → is_leave c ≡ true → May z t c → Free z t
leave_free z t call.Leave leave may = may
leave_free z t _ leave may = absurd (true≢false (sym leave))

none_of_free : (k : CoreShown) (t : ℕ) (is : IsCore k) → Free is.0 t → (g : Collecting) → IsOpenOf k.heap t g → ⊥
none_of_free k t is free g = none_of k.heap is.0 t g is.1.heap.stands free

-- what the thread might do it may still do once what waits was published
pub may_now : (old l : LocalSet) (k0 k : CoreShown) (c : Call) → IsCore k0 → (is : IsCore k) → BelongsTo old k0 → Flushed old l k0 k → ((z : State) → IsCoreOf k0 z → May z old.thread c) → May is.0 l.thread c
may_now old l k0 k c was is belongs flushed may = subst (λ t. May is.0 t c) (sym flushed.published.thread) (may_still k0 k old.thread c was (flushed_stays old l k0 k was belongs flushed) may is.0 is.1)

-- so a thread that might begin a cycle has none open
pub own_free : (old l : LocalSet) (k0 k : CoreShown) (mode : Mode) (u : ℕ) → u ≡ l.thread → IsCore k0 → (is : IsCore k) → BelongsTo old k0 → Flushed old l k0 k → ((z : State) → IsCoreOf k0 z → May z old.thread (call.Begin mode)) → (g : Collecting) → IsOpenOf k.heap u g → ⊥
own_free old l k0 k mode u thread was is belongs flushed may g owned = none_of_free k l.thread is (may_now old l k0 k (call.Begin mode) was is belongs flushed may) g (owned.0, owned.1 ∙ thread)

-- a call may be made once what waits was published
pub can_make : (old l : LocalSet) (k0 k : CoreShown) (c : Call) → IsCore k0 → IsCore k → BelongsTo old k0 → Flushed old l k0 k → old.ended ≡ false → is_local (part_in old) c ≡ false → ((z : State) → IsCoreOf k0 z → May z old.thread c) → CanMake l k.heap c
can_make old l k0 k c was is belongs flushed running shared may = record {
  together = (is.0, core_together l k is.0 (flushed.published.belongs is.0 is.1) is.1);
  out = flushed.published.out;
  running = ap (λ (p : Part). p.ended) flushed.part ∙ running;
  shared = ap (λ p. is_local p c) flushed.part ∙ shared;
  free = λ leave. none_of_free k l.thread is (leave_free is.0 l.thread c leave (may_now old l k0 k c was is belongs flushed may));
}

module _ (old l m : LocalSet) (k0 k : CoreShown) (heap : Shared) (is : IsCore k) (flushed : Flushed old l k0 k) where
  -- where the call was refused
  refused_core : KeepsCycle k.heap heap → Stays l m k.heap heap → IsCoreOf (record { heap = heap; journal = k.journal }) is.0
  refused_core cycle still =
      let t = still.together is.0 (core_together l k is.0 (flushed.published.belongs is.0 is.1) is.1) in
      record { ends = subst (λ (o : Options). Ends o k.journal.entries is.0) (sym still.options) is.1.ends; heap = t.heap; range = is.1.range; room = t.room; owed = is.1.owed ∙ sym (keeps_steps k.heap heap cycle); lists = keeps_lists k.heap heap cycle is.1.lists }

  pub refused : KeepsCycle k.heap heap → Stays l m k.heap heap → IsCore (record { heap = heap; journal = k.journal }) × Flushed old m k0 (record { heap = heap; journal = k.journal })
  refused cycle still =
      let n : CoreShown = record { heap = heap; journal = k.journal } in
      let z = is.0 in
      let b = flushed.published.belongs z is.1 in
      let t = still.together z (core_together l k z b is.1) in
      let core = refused_core cycle still in (
        (z, core),
        record {
          published = record {
            journal = flushed.published.journal;
            options = still.options ∙ flushed.published.options;
            thread = still.thread ∙ flushed.published.thread;
            out = still.waiting;
            belongs = λ y c. subst (Belongs m) (core_once n z y core c) t.local;
            others = λ y a c d u other. ap (λ x. part_of x u) (core_once n a z d core) ∙ flushed.published.others y z c is.1 u other;
          };
          part = part_is m z t.local still.waiting ∙ ap (part_of z) still.thread ∙ sym (part_is l z b flushed.published.out) ∙ flushed.part;
        },
      )

  -- where it was made in the core's state, and its entry went into the journal
  pub stepped_at : (c : Call) (r : Reply) (journal : Recorded) → CallInRange c → steps_left heap ≡ journal.owed → HasLists heap → m.thread ≡ l.thread → m.waiting ≡ [] → heap.options ≡ k.heap.options → (a : State) × Step is.0 (entry_of l.thread c r) a × Together m heap a
      → journal.entries ≡ k.journal.entries ++ entry_of l.thread c r ∷ [] → m.ended ≡ is_leave c → IsCore (record { heap = heap; journal = journal }) × Stepped old m k0 (record { heap = heap; journal = journal }) c r
  stepped_at c r journal range owed lists thread waiting options step entries ended =
      let n : CoreShown = record { heap = heap; journal = journal } in
      let z = is.0 in
      let a = step.0 in
      let core : IsCoreOf n a = record {
        ends = subst (λ (o : Options). Ends o journal.entries a) (sym options) (subst (λ (es : List Entry). Run (opening k.heap.options) es a) (sym entries) (run_more (opening k.heap.options) k.journal.entries z _ a is.1.ends step.1));
        heap = step.2.heap;
        range = step_ranges z _ a is.1.range range step.1;
        room = step.2.room;
        owed = sym owed;
        lists = lists;
      } in (
        (a, core),
        record {
          published = record {
            journal = entries ∙ ap (λ es. es ++ entry_of l.thread c r ∷ []) flushed.published.journal ∙ append_assoc k0.journal.entries old.waiting (entry_of l.thread c r ∷ [])
                ∙ ap (λ t. k0.journal.entries ++ (old.waiting ++ entry_of t c r ∷ [])) flushed.published.thread;
            options = options ∙ flushed.published.options;
            thread = thread ∙ flushed.published.thread;
            out = waiting;
            belongs = λ y d. subst (Belongs m) (core_once n a y core d) step.2.local;
            others = λ y b d e u other.
                ap (λ x. part_of x u) (core_once n b a e core) ∙ others_parts z is.1.heap.sound _ a step.1 u (ap (λ t. t == u) flushed.published.thread ∙ other)
                ∙ flushed.published.others y z d is.1 u other;
          };
          ended = ended;
        },
      )

  -- so it is where it was made in each state
  pub stepped : (c : Call) (r : Reply) (journal : Recorded) → CallInRange c → steps_left heap ≡ journal.owed → HasLists heap → Makes l m k.heap heap c r → journal.entries ≡ k.journal.entries ++ entry_of l.thread c r ∷ [] → m.ended ≡ is_leave c
      → IsCore (record { heap = heap; journal = journal }) × Stepped old m k0 (record { heap = heap; journal = journal }) c r
  stepped c r journal range owed lists made = stepped_at c r journal range owed lists made.thread made.waiting made.options (made.step is.0 (core_together l k is.0 (flushed.published.belongs is.0 is.1) is.1))

  -- and where it is a step of a cycle that leaves the set
  pub advanced_at : (c : Call) (r : Reply) (journal : Recorded) → m ≡ l → CallInRange c → steps_left heap ≡ journal.owed → HasLists heap → Advances l k.heap heap c r → journal.entries ≡ k.journal.entries ++ entry_of l.thread c r ∷ [] → l.ended ≡ is_leave c
      → IsCore (record { heap = heap; journal = journal }) × Stepped old m k0 (record { heap = heap; journal = journal }) c r
  advanced_at c r journal same range owed lists made entries ended =
      stepped_at c r journal range owed lists (ap (λ (s : LocalSet). s.thread) same) (ap (λ (s : LocalSet). s.waiting) same ∙ flushed.published.out) made.options
      (subst (λ (s : LocalSet). (a : State) × Step is.0 (entry_of l.thread c r) a × Together s heap a) (sym same) (made.step is.0 (core_together l k is.0 (flushed.published.belongs is.0 is.1) is.1) is.1.range))
      entries (ap (λ (s : LocalSet). s.ended) same ∙ ended)

-- what is left where memory was wanting
pub on_err : {T E : Type 0} (r : Result T E) {A : Type 0} → A → OnErr r A
on_err (Ok v) a = tt
on_err (Err e) a = a

-- the entry that was pushed is that of the call
pub entry_same : (t u : ℕ) (c d : Call) (r s : Reply) → u ≡ t → d ≡ c → bare_reply s ≡ bare_reply r → bare_entry (record { thread = u; call = d; reply = s }) ≡ entry_of t c r
entry_same t u c d r s thread called replied = λ i. record { thread = thread i; call = called i; reply = replied i }
