-- The calls of a cycle, one after another, are one collection
use Rattle.std.proofs.Common.{◌≡◌, ◌==◌, ◌<◌, ◌+◌, ℕ, zero, suc, Bool, true, false, MatchBool, not, List, [], ◌∷◌, ◌++◌, None, replicate, refl, sym, ap, ap₂, subst, ◌∙◌, ◌⊎◌, inl, inr, arith, true≢false, append_assoc, append-nil, option_map, eqb-true, Result, Ok, Err, OnOk}
use Rattle.std.specs.Option.{option_map_or}
use Rattle.std.proofs.lemmas.List.{map-append}
use Rattle.std.proofs.lemmas.List.Elements.{All-append, All-nil, All-from_recursion}
use Rattle.az_base.specs.declared.action.Mode.{Mode}
use Rattle.az_base.specs.declared.options.Options.{Options}
use Rattle.zone_model.specs.declared.act.Act.TheVariants as act
use Rattle.zone_model.specs.declared.call.Call.{Call}
use Rattle.zone_model.specs.declared.call.Call.TheVariants as call
use Rattle.zone_model.specs.declared.entry.Entry.{Entry}
use Rattle.zone_model.specs.declared.entry.Reply.{Reply}
use Rattle.zone_model.specs.declared.entry.Reply.TheVariants as reply
use Rattle.zone_model.specs.Bare.{bare_reply}
use Rattle.zone_model.specs.Collection.{new_cycle}
use Rattle.zone_model.specs.History.{Run, Ends, is_cycle_step}
use Rattle.zone_model.specs.Part.{Part, is_local}
use Rattle.zone_model.specs.Phases.{Marking, Settling, May, is_closing, left_in}
use Rattle.zone_model.specs.State.{State, opening}
use Rattle.zone_model.specs.Step.{Step, Happens, seen_now, with_moment}
use Rattle.zone_model.specs.State.{moment}
use Rattle.zone_model.proofs.Cycling.{marking_stays, condemn_step, finalise_step, settling_may}
use Rattle.zone_model.proofs.OthersCycles.{seen_stays}
use Rattle.zone_model.proofs.Steps.{plain_happens}
use Rattle.zone_model.proofs.WeakRuns.{run_parts}
use Rattle.local_set.specs.Calls.{entry_of}
use Rattle.local_set.specs.LocalSets.{LocalSet}
use Rattle.zone_escape.specs.Publications.{is_leave}
use Rattle.zone_history.specs.Histories.{Request}
use Rattle.play_order.specs.Playing.{IsTold}
use Rattle.play_order.specs.Waiting.{Waits, Publishes as PublishesLine}
use Rattle.play_core.specs.Collecting.{Publishes, PublishesCalls, Collects, Closes}
use Rattle.play_core.specs.Playing.{CanPlay, PlaysLine}
use Rattle.play_core.specs.Worlds.{WorldShown, AtEnd, IsQuiet, threads_in, waits_of, part_at, seen, is_running, line_of, Steps}

-- a step of a cycle isn't local, and doesn't end its thread
pub cycle_shared : (p : Part) (c : Call) → is_cycle_step c ≡ true → is_local p c ≡ false
cycle_shared p (call.Begin mode) h = refl
cycle_shared p call.Condemn h = refl
cycle_shared p call.Finalise h = refl
cycle_shared p call.Reclaim h = refl
cycle_shared p _ h = absurd (true≢false (sym h))

cycle_stays : (c : Call) → is_cycle_step c ≡ true → is_leave c ≡ false
cycle_stays call.Leave h = absurd (true≢false (sym h))
cycle_stays _ h = refl

pub closing_steps : (c : Call) → is_closing c ≡ true → is_cycle_step c ≡ true
closing_steps call.Condemn h = refl
closing_steps call.Finalise h = refl
closing_steps call.Reclaim h = refl
closing_steps _ h = absurd (true≢false (sym h))

by_false : (b : Bool) (P Q : Type 0) → b ≡ false → MatchBool b P Q → Q
by_false true P Q e h = absurd (true≢false e)
by_false false P Q e h = h

-- such a step publishes what waited, and its entry
pub published : (old new : WorldShown) (t : ℕ) (c : Call) (r : Reply) → is_cycle_step c ≡ true → Steps old new t c r → threads_in new.locals ≡ threads_in old.locals → Publishes old new t (entry_of t c r ∷ [])
published old new t c r cycle steps threads =
    let does = by_false (is_local (part_at old t) c) (Waits old.options.pending (seen old).queues (line_of old t c r) (seen new).queues) (PublishesLine (seen old).queues (line_of old t c r) (seen new).queues)
    (cycle_shared (part_at old t) c cycle) steps.turn.plays.does in
    record {
      journal = does.0;
      out = does.1;
      own = All-from_recursion (λ (e : Entry). e.thread ≡ t) (entry_of t c r ∷ []) (refl, tt);
      options = steps.turn.options;
      others = steps.others;
      running = steps.running ∙ ap not (cycle_stays c cycle);
      threads = threads;
    }

-- where nothing waits, nothing published is published
pub published_none : (w : WorldShown) (t : ℕ) → waits_of w t ≡ [] → is_running w t ≡ true → Publishes w w t []
published_none w t out run = record {
  journal = sym (append-nil w.journal) ∙ ap (λ (es : List Entry). w.journal ++ es) (sym (append-nil (waits_of w t) ∙ out));
  out = out;
  own = All-nil (λ (e : Entry). e.thread ≡ t);
  options = refl;
  others = λ u other. refl;
  running = run;
  threads = refl;
}

-- one after the other
pub published_on : (a b c : WorldShown) (t : ℕ) (es fs : List Entry) → Publishes a b t es → Publishes b c t fs → Publishes a c t (es ++ fs)
published_on a b c t es fs f g = record {
  journal = g.journal ∙ ap₂ (λ (xs ws : List Entry). xs ++ (ws ++ fs)) f.journal f.out ∙ append_assoc a.journal (waits_of a t ++ es) fs ∙ ap (λ (xs : List Entry). a.journal ++ xs) (append_assoc (waits_of a t) es fs);
  out = g.out;
  own = All-append (λ (e : Entry). e.thread ≡ t) es fs f.own g.own;
  options = g.options ∙ f.options;
  others = λ u other. g.others u other ∙ f.others u other;
  running = g.running;
  threads = g.threads ∙ f.threads;
}

-- the last state came by the entry from one that the entries before it led to
came_after : (old new : WorldShown) (t : ℕ) (e : Entry) → Publishes old new t (e ∷ []) → AtEnd new (λ a. (z : State) × Run (opening old.options) (old.journal ++ waits_of old t) z × Step z e a)
came_after old new t e p a ends =
    let there = subst (λ (xs : List Entry). Run (opening old.options) xs a) (p.journal ∙ sym (append_assoc old.journal (waits_of old t) (e ∷ []))) (subst (λ (o : Options). Run (opening o) new.journal a) p.options ends) in
    let run = run_parts (opening old.options) (old.journal ++ waits_of old t) (e ∷ []) a there in
    (run.0, run.1, subst (λ y. Step run.0 e y) (sym run.2.2) run.2.1)

came : (old new : WorldShown) (t : ℕ) (e : Entry) → waits_of old t ≡ [] → Publishes old new t (e ∷ []) → AtEnd new (λ a. (z : State) × Ends old.options old.journal z × Step z e a)
came old new t e out p a ends =
    let by = came_after old new t e p a ends in
    (by.0, subst (λ (xs : List Entry). Run (opening old.options) xs by.0) (ap (λ (ws : List Entry). old.journal ++ ws) out ∙ append-nil old.journal) by.1, by.2)

-- a step of a cycle that was begun
pub closed : (old new : WorldShown) (t : ℕ) (c : Call) (r : Reply) → is_closing c ≡ true → waits_of old t ≡ [] → Steps old new t c r → threads_in new.locals ≡ threads_in old.locals → Closes old new t c r
closed old new t c r closing out steps threads =
    let p = published old new t c r (closing_steps c closing) steps threads in
    record { published = p; came = came old new t (entry_of t c r) out p }

-- what a Begin leads to
begin_replies : (y a : State) (t : ℕ) (mode : Mode) (r : Reply) → Happens y t (call.Begin mode) r a → (r ≡ reply.Busy) ⊎ ((r ≡ reply.Begun) × Marking a t)
begin_replies y a t mode reply.Busy h = inl refl
begin_replies y a t mode reply.Begun h =
    inr (refl, subst (λ x. Marking x t) (sym h.2) (marking_stays t h.0 (seen_now h.0) (seen_stays t h.0) (new_cycle y t mode, (ap (λ (x : State). x.cycle) h.1.1, refl), refl)))
begin_replies y a t mode _ h = absurd h.1

bare_busy : (r : Reply) → bare_reply r ≡ reply.Busy → r ≡ reply.Busy
bare_busy (reply.Condemned l) h = cc (h)
bare_busy (reply.Reclaimed l) h = cc (h)
bare_busy (reply.Settled l k) h = cc (h)
bare_busy _ h = h

module _ (old new : WorldShown) (t : ℕ) (mode : Mode) (r : Reply) (p : Publishes old new t (entry_of t (call.Begin mode) r ∷ [])) (other : r ≡ reply.Busy → ⊥) where
  begun_at : AtEnd new (λ a. (bare_reply r ≡ reply.Begun) × Marking a t)
  begun_at a ends =
      let by = came_after old new t (entry_of t (call.Begin mode) r) p a ends in
      elim (begin_replies by.0 a t mode (bare_reply r) (plain_happens by.0 (entry_of t (call.Begin mode) r) a by.2 (λ id n. n) refl)) [
        | inl busy ↦ absurd (other (bare_busy r busy))
        | inr begun ↦ begun
      ]

  pub begun_marks : AtEnd new (λ a. Marking a t)
  begun_marks a ends = (begun_at a ends).1

  pub begun_is : (a : State) → Ends new.options new.journal a → bare_reply r ≡ reply.Begun
  begun_is a ends = (begun_at a ends).0

-- after a Condemn the blocks wait for their finalisers
pub condemned_settles : (old new : WorldShown) (t : ℕ) (r : Reply) → Closes old new t call.Condemn r → AtEnd new (λ a. Settling (left_in a) a t)
condemned_settles old new t r closes a ends = let by = closes.came a ends in condemn_step by.0 t (bare_reply r) a by.2

one_fewer : (n m : ℕ) → n + 1 ≡ suc m → n ≡ m
one_fewer n m h = omega (arith, h)

-- after each Finalise one less
pub finalised_settles : (old new : WorldShown) (t n : ℕ) (r : Reply) → AtEnd old (λ z. Settling (suc n) z t) → Closes old new t call.Finalise r → AtEnd new (λ a. Settling n a t)
finalised_settles old new t n r settling closes a ends =
    let by = closes.came a ends in
    let next = finalise_step by.0 t (bare_reply r) a (suc n) (settling by.0 by.1) by.2 in
    subst (λ k. Settling k a t) (one_fewer (left_in a) n next.0) next.1

pub may_finalise : (w : WorldShown) (t n : ℕ) → 0 < n → AtEnd w (λ z. Settling n z t) → AtEnd w (λ z. May z t call.Finalise)
may_finalise w t n some settling z ends = (settling_may n z t (settling z ends)).0 some

pub may_reclaim : (w : WorldShown) (t : ℕ) → AtEnd w (λ z. Settling 0 z t) → AtEnd w (λ z. May z t call.Reclaim)
may_reclaim w t settling z ends = (settling_may 0 z t (settling z ends)).1 refl

-- and after a Reclaim no cycle is open
reclaimed : (z a : State) (t : ℕ) (r : Reply) → Happens z t call.Reclaim r a → a.cycle ≡ None
reclaimed z a t reply.Busy h = absurd h.0
reclaimed z a t (reply.Settled gone kept) h = ap (λ (y : State). y.cycle) h.2 ∙ ap (option_map (with_moment (moment h.0))) (ap (λ (y : State). y.cycle) h.1.does)
reclaimed z a t _ h = absurd h.1

pub reclaimed_quiet : (old new : WorldShown) (t : ℕ) (r : Reply) → Closes old new t call.Reclaim r → IsQuiet new
reclaimed_quiet old new t r closes a ends =
    let by = closes.came a ends in
    reclaimed by.0 a t (bare_reply r) (plain_happens by.0 (entry_of t call.Reclaim r) a by.2 (λ id n. n) refl)

-- one Finalise more
replicate_more : (n : ℕ) (c : Call) → replicate n c ++ c ∷ [] ≡ replicate (suc n) c
replicate_more zero c = refl
replicate_more (suc n) c = ap (λ cs. c ∷ cs) (replicate_more n c)

pub one_more : (a b c : WorldShown) (t n : ℕ) (r : Reply) → PublishesCalls a b t (replicate n call.Finalise) → Closes b c t call.Finalise r → PublishesCalls a c t (replicate (suc n) call.Finalise)
one_more a b c t n r so closes = (
  so.0 ++ entry_of t call.Finalise r ∷ [],
  published_on a b c t so.0 (entry_of t call.Finalise r ∷ []) so.1 closes.published,
  map-append (λ (e : Entry). e.call) so.0 (entry_of t call.Finalise r ∷ []) ∙ ap (λ (cs : List Call). cs ++ call.Finalise ∷ []) so.2 ∙ replicate_more n call.Finalise,
)

-- a Begin that was busy is the whole collection
pub busy_collects : (old new : WorldShown) (t : ℕ) (mode : Mode) (r : Reply) → r ≡ reply.Busy → Publishes old new t (entry_of t (call.Begin mode) r ∷ []) → Collects old new t mode
busy_collects old new t mode r busy p = (entry_of t (call.Begin mode) r ∷ [], p, inl (entry_of t (call.Begin mode) r, refl, refl, ap bare_reply busy))

-- and so is one that had begun, with the other calls
module _ (a b c d e : WorldShown) (t n : ℕ) (mode : Mode) (r : Reply) (condemned gone : Reply) where
  pub begun_collects : Publishes a b t (entry_of t (call.Begin mode) r ∷ []) → bare_reply r ≡ reply.Begun → Closes b c t call.Condemn condemned → PublishesCalls c d t (replicate n call.Finalise) → Closes d e t call.Reclaim gone → Collects a e t mode
  begun_collects first begun second finals last =
      let x = entry_of t (call.Begin mode) r in
      let y = entry_of t call.Condemn condemned in
      let w = entry_of t call.Reclaim gone in (
        x ∷ y ∷ (finals.0 ++ w ∷ []),
        published_on a b e t (x ∷ []) (y ∷ (finals.0 ++ w ∷ [])) first (published_on b c e t (y ∷ []) (finals.0 ++ w ∷ []) second.published (published_on c d e t finals.0 (w ∷ []) finals.1 last.published)),
        inr (x, y ∷ (finals.0 ++ w ∷ []), n, refl, refl, begun, ap (λ (cs : List Call). call.Condemn ∷ cs) (map-append (λ (e : Entry). e.call) finals.0 (w ∷ []) ∙ ap (λ (cs : List Call). cs ++ call.Reclaim ∷ []) finals.2)),
      )

-- a collection is one line of a play
pub collection_plays : (old new : WorldShown) (t : ℕ) (mode : Mode) → IsTold (seen old) t → Collects old new t mode → PlaysLine old new (t, act.Collect mode)
collection_plays old new t mode told c = (
  told,
  record { thread = t; local = false; entries = c.0 },
  record {
    thread = refl;
    group = c.2;
    own = c.1.own;
    local = refl;
    plays = record { does = (c.1.journal, c.1.out); others = λ u other. ap (λ o. option_map_or (λ (l : LocalSet). l.waiting) o []) (c.1.others u other) };
    options = c.1.options;
  },
)

-- after which the world can go on
collection_goes_on : (w after : WorldShown) (rs : List Request) (t : ℕ) (mode : Mode) → CanPlay w rs → is_running w t ≡ true → Collects w after t mode → (IsQuiet w → IsQuiet after) → CanPlay after rs
collection_goes_on w after rs t mode can run c quiet = record {
  threads = c.1.threads ∙ can.threads;
  running = λ u. by u (t == u) refl ∙ can.running u;
  quiet = quiet can.quiet;
}
  where
    by : (u : ℕ) (b : Bool) → (t == u) ≡ b → is_running after u ≡ is_running w u
    by u true e = subst (λ v. is_running after v ≡ is_running w v) (eqb-true t u e) (c.1.running ∙ sym run)
    by u false e = ap (λ o. option_map_or (λ (l : LocalSet). not l.ended) o false) (c.1.others u e)

pub collection_lasts : {X E : Type 0} (w after : WorldShown) (rs : List Request) (t : ℕ) (mode : Mode) (r : Result X E) → CanPlay w rs → is_running w t ≡ true
    → OnOk r (Collects w after t mode) → OnOk r (IsQuiet w → IsQuiet after) → OnOk r (CanPlay after rs)
collection_lasts w after rs t mode (Ok x) can run c quiet = collection_goes_on w after rs t mode can run c quiet
collection_lasts w after rs t mode (Err e) can run c quiet = tt
