-- What a call of a thread is in the world
use Rattle.std.proofs.Common.{◌≡◌, ◌==◌, ◌↔◌, IsTrue, ℕ, Bool, true, false, not, MatchBool, if◌then◌else◌, List, [], ◌∷◌, ◌++◌, Option, Some, None, length, slice_get, slice_set, refl, sym, ap, ap₂, subst, ◌∙◌, inl, inr, true≢false, eqb-true, eq-eqb, position, slice_index_or, Result, Ok, Err, IfOk, OnErr}
use Rattle.std.proofs.lemmas.Option.{slice_get_read}
use Rattle.std.specs.Option.{option_map_or}
use Rattle.std.proofs.lemmas.List.Elements.{All-from_recursion}
use Rattle.az_base.specs.declared.misuse.NoMemory.{NoMemory}
use Rattle.az_base.specs.declared.options.Options.{Options}
use Rattle.zone_model.specs.declared.call.Call.{Call}
use Rattle.zone_model.specs.declared.call.Call.TheVariants as call
use Rattle.zone_model.specs.declared.entry.Entry.{Entry}
use Rattle.zone_model.specs.declared.entry.Reply.{Reply}
use Rattle.zone_model.specs.History.{Ends}
use Rattle.zone_model.specs.Part.{Part, is_local, opening_part}
use Rattle.zone_model.specs.Phases.{May}
use Rattle.zone_model.specs.State.{State, opening}
use Rattle.zone_model.proofs.Determined.{run_determined}
use Rattle.local_set.specs.Calls.{Made, entry_of}
use Rattle.local_set.specs.LocalSets.{LocalSet, part_in}
use Rattle.zone_escape.specs.Cores.{CoreShown, IsCore, IsCoreOf, BelongsTo}
use Rattle.zone_escape.specs.Publications.{Flushed, Stepped, Refused, is_leave}
use Rattle.play_order.specs.Waiting.{Waits, Publishes as PublishesLine}
use Rattle.play_order.specs.Playing.{IsTold}
use Rattle.play_order.proofs.Playing.{alone_part}
use Rattle.play_core.specs.Turning.{MakesRoom, Turned, Stopped}
use Rattle.play_core.specs.Worlds.{WorldShown, AtEnd, local_of, waits_of, part_at, seen, is_running, line_of, Steps, Stops}
use Rattle.play_core.specs.Inside.{Keeps}
use Rattle.play_core.proofs.Sets.{is_of, one_set, placed, not_placed, found_is, found_at, found_there, found_others, set_here}
use Rattle.play_core.proofs.Keeping.{Moves, keeps_on}

-- the world of a core and sets
abbrev pub world_of : CoreShown → List LocalSet → WorldShown
world_of k locals = record { options = k.heap.options; journal = k.journal.entries; locals = locals; cycle = k.heap.gc.cycle }

-- what is seen of a thread by its set
pub waits_is : (w : WorldShown) (t : ℕ) (l : LocalSet) → local_of w t ≡ Some l → waits_of w t ≡ l.waiting
waits_is w t l h = ap (λ o. option_map_or (λ (l : LocalSet). l.waiting) o []) h

pub part_is : (w : WorldShown) (t : ℕ) (l : LocalSet) → local_of w t ≡ Some l → part_at w t ≡ part_in l
part_is w t l h = ap (λ o. option_map_or part_in o (opening_part w.options)) h

pub running_is : (w : WorldShown) (t : ℕ) (l : LocalSet) → local_of w t ≡ Some l → is_running w t ≡ not l.ended
running_is w t l h = ap (λ o. option_map_or (λ (l : LocalSet). not l.ended) o false) h

-- the set of a running thread
pub runs : (w : WorldShown) (t : ℕ) → is_running w t ≡ true → (l : LocalSet) × (local_of w t ≡ Some l) × (l.ended ≡ false)
runs w t h = by (local_of w t) refl h
  where
    off : (b : Bool) → not b ≡ true → b ≡ false
    off true h = sym h
    off false h = refl

    by : (o : Option LocalSet) → local_of w t ≡ o → option_map_or (λ (l : LocalSet). not l.ended) o false ≡ true → (l : LocalSet) × (local_of w t ≡ Some l) × (l.ended ≡ false)
    by None e k = absurd (true≢false (sym k))
    by (Some l) e k = (l, e, off l.ended k)

-- a thread's part is told by its entries
pub told : (k : CoreShown) (locals : List LocalSet) (at : ℕ) (l : LocalSet) → IsCore k → Keeps k locals → slice_get locals at ≡ Some l → IsTold (seen (world_of k locals)) l.thread
told k locals at l core keeps here =
    let w = world_of k locals in
    let there : local_of w l.thread ≡ Some l = found_there locals at l keeps.ascending here in
    let b = keeps.belongs at l here core.0 core.1 in
    let alone = alone_part k.heap.options k.journal.entries core.0 l.thread l.waiting (part_in l) core.1.ends b.run in
    rw (waits_is w l.thread l there, part_is w l.thread l there) alone

-- a set has the options of the core
pub options_are : (k : CoreShown) (l : LocalSet) → IsCore k → BelongsTo l k → l.options ≡ k.heap.options
options_are k l core belongs = (belongs core.0 core.1).options ∙ core.1.heap.stands.options

by_test : (b c : Bool) (P Q : Type 0) → b ≡ c → MatchBool c P Q → MatchBool b P Q
by_test true true P Q e h = h
by_test false false P Q e h = h
by_test true false P Q e h = cc (e)
by_test false true P Q e h = cc (e)

local_stays : (p : Part) (c : Call) → is_local p c ≡ true → is_leave c ≡ false
local_stays p call.Leave h = absurd (true≢false (sym h))
local_stays p c h = refl

-- what is the same at one number and at all others
all_same : {X : Type 0} (t : ℕ) (f g : ℕ → X) → f t ≡ g t → ((u : ℕ) → (t == u) ≡ false → f u ≡ g u) → (u : ℕ) → f u ≡ g u
all_same t f g here others u = by (t == u) refl
  where
    by : (b : Bool) → (t == u) ≡ b → f u ≡ g u
    by true e = subst (λ v. f v ≡ g v) (eqb-true t u e) here
    by false e = others u e

-- a call of the thread t, whose set is l at a place, and m after it
module _ (k n : CoreShown) (locals : List LocalSet) (at : ℕ) (l m : LocalSet) (keeps : Keeps k locals) (here : slice_get locals at ≡ Some l) (moves : Moves l m k n) (core : IsCore k) where
  abbrev old : WorldShown
  old = world_of k locals

  abbrev new : WorldShown
  new = world_of n (slice_set locals at m)

  abbrev t : ℕ
  t = l.thread

  before : local_of old t ≡ Some l
  before = found_there locals at l keeps.ascending here

  after : local_of new t ≡ Some m
  after = subst (λ u. local_of new u ≡ Some m) moves.thread (found_there (slice_set locals at m) at m (keeps_on k n locals at l m keeps here moves).ascending (set_here locals at m l here))

  pub others : (u : ℕ) → (t == u) ≡ false → local_of new u ≡ local_of old u
  others u other = found_others locals at u l m here moves.thread other

  waits_others : (u : ℕ) → (t == u) ≡ false → waits_of new u ≡ waits_of old u
  waits_others u other = ap (λ o. option_map_or (λ (l : LocalSet). l.waiting) o []) (others u other)

  parts_others : (u : ℕ) → (t == u) ≡ false → part_at new u ≡ part_at old u
  parts_others u other = ap₂ (λ o (p : Options). option_map_or part_in o (opening_part p)) (others u other) moves.options

  own_options : l.options ≡ k.heap.options
  own_options = options_are k l core (keeps.belongs at l here)

  -- the entry waits, or is published behind what waited
  waits_now : (c : Call) (reply : Reply) (mid : LocalSet) → MakesRoom l mid k n → Made mid m c reply → Waits k.heap.options.pending (seen old).queues (line_of old t c reply) (seen new).queues
  waits_now c reply mid room made = by_test _ _ _ _ (ap₂ (λ (es : List Entry) (p : ℕ). length es == p) (waits_is old t l before) (sym (ap (λ (o : Options). o.pending) own_options))) (by (length l.waiting == l.options.pending) room)
    where
      by : (b : Bool) → MatchBool b (Flushed l mid k n) ((mid ≡ l) × (n ≡ k)) → MatchBool b ((n.journal.entries ≡ k.journal.entries ++ waits_of old t) × (waits_of new t ≡ entry_of t c reply ∷ []))
          ((n.journal.entries ≡ k.journal.entries) × (waits_of new t ≡ waits_of old t ++ entry_of t c reply ∷ []))
      by true f = (
        f.published.journal ∙ ap (λ ws. k.journal.entries ++ ws) (sym (waits_is old t l before)),
        waits_is new t m after ∙ made.waiting ∙ ap₂ (λ es u. es ++ entry_of u c reply ∷ []) f.published.out f.published.thread,
      )
      by false s = (
        ap (λ (x : CoreShown). x.journal.entries) s.1,
        waits_is new t m after ∙ made.waiting
            ∙ ap₂ (λ es u. es ++ entry_of u c reply ∷ []) (ap (λ (x : LocalSet). x.waiting) s.0 ∙ sym (waits_is old t l before)) (ap (λ (x : LocalSet). x.thread) s.0),
      )

  does : (c : Call) (reply : Reply) → Turned l m k n c reply → MatchBool (is_local (part_at old t) c) (Waits k.heap.options.pending (seen old).queues (line_of old t c reply) (seen new).queues) (PublishesLine (seen old).queues (line_of old t c reply) (seen new).queues)
  does c reply turned = by_test _ _ _ _ (ap (λ p. is_local p c) (part_is old t l before)) (by (is_local (part_in l) c) turned)
    where
      by : (b : Bool) → MatchBool b ((mid : LocalSet) × MakesRoom l mid k n × Made mid m c reply) (Stepped l m k n c reply)
          → MatchBool b (Waits k.heap.options.pending (seen old).queues (line_of old t c reply) (seen new).queues) (PublishesLine (seen old).queues (line_of old t c reply) (seen new).queues)
      by true h = waits_now c reply h.0 h.1 h.2
      by false h = (
        h.published.journal ∙ ap (λ ws. k.journal.entries ++ (ws ++ entry_of t c reply ∷ [])) (sym (waits_is old t l before)),
        waits_is new t m after ∙ h.published.out,
      )

  goes_on : (c : Call) (reply : Reply) → Turned l m k n c reply → m.ended ≡ is_leave c
  goes_on c reply turned = by (is_local (part_in l) c) refl turned
    where
      by : (b : Bool) → is_local (part_in l) c ≡ b → MatchBool b ((mid : LocalSet) × MakesRoom l mid k n × Made mid m c reply) (Stepped l m k n c reply) → m.ended ≡ is_leave c
      by true e h = h.2.running ∙ sym (local_stays (part_in l) c e)
      by false e h = h.ended

  pub steps : (c : Call) (reply : Reply) → Turned l m k n c reply → Steps old new t c reply
  steps c reply turned = record {
    turn = record {
      thread = refl;
      group = refl;
      own = All-from_recursion (λ (e : Entry). e.thread ≡ t) (entry_of t c reply ∷ []) (refl, tt);
      local = refl;
      plays = record { does = does c reply turned; others = waits_others };
      options = moves.options;
    };
    others = others;
    running = running_is new t m after ∙ ap not (goes_on c reply turned);
  }

  -- nothing was done, or what waits was published
  pub stops : Stopped l m k n → Stops (seen old) (seen new) t
  stops s = by s.1
    where
      part_now : part_in s.0 ≡ part_in l → (u : ℕ) → part_at new u ≡ part_at old u
      part_now same = all_same t (part_at new) (part_at old) (part_is new t m after ∙ ap part_in s.2 ∙ same ∙ sym (part_is old t l before)) parts_others

      waits_then : waits_of new t ≡ s.0.waiting
      waits_then = waits_is new t m after ∙ ap (λ (x : LocalSet). x.waiting) s.2

      by : Refused l s.0 k n → Stops (seen old) (seen new) t
      by (inl u) =
          let parts = part_now (ap part_in u.local) in
          let waits = all_same t (waits_of new) (waits_of old) (waits_then ∙ ap (λ (x : LocalSet). x.waiting) u.local ∙ sym (waits_is old t l before)) waits_others in
          inl (λ i. record { options = u.options i; queues = record { journal = u.journal i; waits = λ v. waits v i }; parts = λ v. parts v i })
      by (inr f) =
          let parts = part_now f.part in
          let none : ℕ → List Entry = λ v. if t == v then [] else waits_of old v in
          let waits = all_same t (waits_of new) none (waits_then ∙ f.published.out ∙ sym (ap (λ b. if b then [] else waits_of old t) (eq-eqb t t refl))) (λ v o. waits_others v o ∙ sym (ap (λ b. if b then [] else waits_of old v) o)) in
          let journal = f.published.journal ∙ ap (λ ws. k.journal.entries ++ ws) (sym (waits_is old t l before)) in
          inr (λ i. record { options = f.published.options i; queues = record { journal = journal i; waits = λ v. waits v i }; parts = λ v. parts v i })

-- the set of a running thread, at its place
pub record IsAt (k : CoreShown) (locals : List LocalSet) (th at : ℕ) (x : LocalSet) : Type 0 where
  pub here : slice_get locals at ≡ Some x
  pub thread : x.thread ≡ th
  pub found : local_of (world_of k locals) th ≡ Some x

pub at_place : (k : CoreShown) (locals : List LocalSet) (th at : ℕ) (x : LocalSet) → position (is_of th) locals ≡ Some at → x ≡ slice_index_or locals at x → IsAt k locals th at x
at_place k locals th at x place is =
    let p = placed th at locals place in
    let here = slice_get_read locals (length locals) at x refl p.4 is in
    let same = one_set p.0 x (sym p.1 ∙ here) in
    record { here = here; thread = ap (λ (y : LocalSet). y.thread) (sym same) ∙ p.3; found = p.2 ∙ ap Some same }

-- as it is found
pub at_call : (k : CoreShown) (locals items : List LocalSet) (th at : ℕ) (x : LocalSet) (o : Option ℕ) → items ≡ locals → o ≡ position (is_of th) items → o ≡ Some at → x ≡ slice_index_or locals at x → IsAt k locals th at x
at_call k locals items th at x o same place some is = at_place k locals th at x (ap (position (is_of th)) (sym same) ∙ sym place ∙ some) is

-- it hasn't ended
pub at_running : (k : CoreShown) (locals : List LocalSet) (th at : ℕ) (x : LocalSet) → IsAt k locals th at x → is_running (world_of k locals) th ≡ true → x.ended ≡ false
at_running k locals th at x is run =
    let r = runs (world_of k locals) th run in
    ap (λ (y : LocalSet). y.ended) (one_set x r.0 (sym is.found ∙ r.1)) ∙ r.2

-- a thread that runs has a place
pub has_place : (k : CoreShown) (locals : List LocalSet) (th : ℕ) → is_running (world_of k locals) th ≡ true → position (is_of th) locals ≡ None → ⊥
has_place k locals th run none = let r = runs (world_of k locals) th run in no_set r.0 (sym r.1 ∙ not_placed th locals none)
  where
    no_set : (l : LocalSet) → Some l ≡ None → ⊥
    no_set l h = cc (h)

-- a call of the thread th, made or refused
module _ (k n : CoreShown) (locals : List LocalSet) (at : ℕ) (l m : LocalSet) (keeps : Keeps k locals) (here : slice_get locals at ≡ Some l) (moves : Moves l m k n) (core : IsCore k) (th : ℕ) (thread : l.thread ≡ th) where
  pub step_ok : (r : Result Reply NoMemory) (c : Call) → IfOk r (λ reply. Turned l m k n c reply) → IfOk r (λ reply. Steps (world_of k locals) (world_of n (slice_set locals at m)) th c reply)
  step_ok (Ok reply) c ok = subst (λ u. Steps (world_of k locals) (world_of n (slice_set locals at m)) u c reply) thread (steps k n locals at l m keeps here moves core c reply ok)
  step_ok (Err e) c ok = tt

  pub step_err : (r : Result Reply NoMemory) → OnErr r (Stopped l m k n) → OnErr r (Stops (seen (world_of k locals)) (seen (world_of n (slice_set locals at m))) th)
  step_err (Ok reply) err = tt
  step_err (Err e) err = subst (Stops (seen (world_of k locals)) (seen (world_of n (slice_set locals at m)))) thread (stops k n locals at l m keeps here moves core err)

-- so it is with each thread that is there
pub told_there : (k : CoreShown) (locals : List LocalSet) → IsCore k → Keeps k locals → (t : ℕ) (l : LocalSet) → local_of (world_of k locals) t ≡ Some l → IsTold (seen (world_of k locals)) t
told_there k locals core keeps t l found =
    let at = found_at t locals l found in
    subst (IsTold (seen (world_of k locals))) (found_is t locals l found) (told k locals at.0 l core keeps at.1)

-- whether a thread may make a call
pub may_of : (w : WorldShown) (k : CoreShown) (locals : List LocalSet) → world_of k locals ≡ w → IsCore k → (th : ℕ) (l : LocalSet) → local_of w th ≡ Some l → l.ended ≡ false → (c : Call) (b : Bool)
    → ((z : State) → IsCoreOf k z → IsTrue b ↔ May z l.thread c) → (z : State) → Ends w.options w.journal z → IsTrue b ↔ (IsTrue (is_running w th) × May z th c)
may_of w k locals is core th l found off c b may z ends =
    let run : is_running w th ≡ true = running_is w th l found ∙ ap not off in
    let same = found_is th w.locals l found in
    let ends_here = subst (λ (x : WorldShown). Ends x.options x.journal z) (sym is) ends in
    let one : z ≡ core.0 = run_determined (opening k.heap.options) k.journal.entries z core.0 ends_here core.1.ends in
    let both = may z (subst (IsCoreOf k) (sym one) core.1) in
    ((λ t. (run, subst (λ u. May z u c) same (both.0 t))), (λ h. both.1 (subst (λ u. May z u c) (sym same) h.1)))

-- what holds of each state of the core holds at the end of what the world has published
pub at_end : (k : CoreShown) (locals : List LocalSet) (P : State → Type 0) → IsCore k → ((z : State) → IsCoreOf k z → P z) → AtEnd (world_of k locals) P
at_end k locals P core is z ends = subst P (run_determined (opening k.heap.options) k.journal.entries core.0 z core.1.ends ends) (is core.0 core.1)

-- what a thread may do at the end of what the world has published it may do at each state of the core
pub may_at : (k : CoreShown) (locals : List LocalSet) (t th : ℕ) (c : Call) → t ≡ th → AtEnd (world_of k locals) (λ z. May z th c) → (z : State) → IsCoreOf k z → May z t c
may_at k locals t th c same may z is = subst (λ u. May z u c) (sym same) (may z is.ends)
