-- The lines of a script, dealt out to the threads that are asked
use Rattle.std.proofs.Common.{◌≡◌, ◌≤◌, ◌<◌, ◌+◌, ◌==◌, ◌||◌, ℕ, zero, suc, Bool, true, false, cond, List, [], ◌∷◌, length, filter, map, All, AllPairs, Contains, inl, inr, eqb-true, eq-or-lt_of_le, true≢false, refl, sym, ap, subst, ◌∙◌, arith}
use Rattle.std.specs.List.{range_with_len}
use Rattle.std.proofs.lemmas.List.Elements.{filter_passes, All-filter}
use Rattle.std.proofs.lemmas.Bool.{eqb-false}
use Rattle.std.proofs.lemmas.List.Kept.{AllPairs-cons, AllPairs-filter}
use Rattle.zone_model.specs.declared.call.Call.{Call}
use Rattle.zone_model.specs.declared.call.Call.TheVariants as call
use Rattle.zone_model.specs.declared.act.Act.TheVariants as act
use Rattle.zone_model.specs.declared.entry.Entry.{Entry}
use Rattle.zone_model.specs.History.{entries_of, is_cycle_step}
use Rattle.zone_escape.specs.Publications.{is_leave}
use Rattle.call_words.specs.Ranges.{IsNamed}
use Rattle.heap_script.specs.declared.line.Line.{Line}
use Rattle.heap_script.specs.Scripts.{AllNamed, AllThreads}
use Rattle.zone_history.specs.Histories.{Request, is_asked, asked_of}
use Rattle.play_order.specs.Play.{threads_of}
use Rattle.play_core.specs.Playing.{requests}
use Rattle.run_zone.specs.Works.{acts_of}

-- a call that scripts have a name for is no step of a cycle, and no leave
pub named_plain : (c : Call) → IsNamed (act.Call c) → is_cycle_step c ≡ false
named_plain (call.Begin mode) h = absurd h
named_plain call.Condemn h = absurd h
named_plain call.Finalise h = absurd h
named_plain call.Reclaim h = absurd h
named_plain call.Leave h = absurd h
named_plain _ h = refl

pub named_stays : (c : Call) → IsNamed (act.Call c) → is_leave c ≡ false
named_stays (call.Begin mode) h = absurd h
named_stays call.Condemn h = absurd h
named_stays call.Finalise h = absurd h
named_stays call.Reclaim h = absurd h
named_stays call.Leave h = absurd h
named_stays _ h = refl

-- the thread's lines ask for what the thread is asked for
pub dealt_asked : (lines : List Line) (t : ℕ) → acts_of (filter (λ line. line.thread == t) lines) ≡ asked_of (requests lines) t
dealt_asked [] t = refl
dealt_asked (l ∷ ls) t = by (l.thread == t) (dealt_asked ls t)
  where
    by : (b : Bool) → acts_of (filter (λ line. line.thread == t) ls) ≡ asked_of (requests ls) t
        → acts_of (cond b (l ∷ filter (λ line. line.thread == t) ls) (filter (λ line. line.thread == t) ls)) ≡ map (λ (r : Request). r.1) (cond b ((l.thread, l.act) ∷ filter (λ (r : Request). r.0 == t) (requests ls)) (filter (λ (r : Request). r.0 == t) (requests ls)))
    by true h = ap (λ acts. l.act ∷ acts) h
    by false h = h

pub dealt_named : (lines : List Line) (t : ℕ) → AllNamed lines → AllNamed (filter (λ line. line.thread == t) lines)
dealt_named lines t named = All-filter (λ (line : Line). line.thread == t) (λ (line : Line). IsNamed line.act) lines named

contains_later : (x : ℕ) (xs : List ℕ) (t : ℕ) → Contains xs t → Contains (x ∷ xs) t
contains_later x xs t c = (suc c.0, at (length xs) c.0 c.1, c.2)
  where
    at : (n k : ℕ) → k < n → suc k < suc n
    at n k h = omega (arith, h)

-- a number of a range that passes a test is among those that do
range_filter : (p : ℕ → Bool) (t a n : ℕ) → a ≤ t → t < a + n → p t ≡ true → Contains (filter p (range_with_len a n)) t
range_filter p t a zero low high passes = absurd (omega (arith, low, high))
range_filter p t a (suc n) low high passes = by (a == t) refl (range_filter p t (a + 1) n)
  where
    kept : (b : Bool) → Contains (filter p (range_with_len (a + 1) n)) t → Contains (cond b (a ∷ filter p (range_with_len (a + 1) n)) (filter p (range_with_len (a + 1) n))) t
    kept true c = contains_later a (filter p (range_with_len (a + 1) n)) t c
    kept false c = c

    by : (b : Bool) → (a == t) ≡ b → (a + 1 ≤ t → t < (a + 1) + n → p t ≡ true → Contains (filter p (range_with_len (a + 1) n)) t) → Contains (filter p (range_with_len a (suc n))) t
    by true e rest = let same = eqb-true a t e in subst (λ b. Contains (cond b (a ∷ filter p (range_with_len (a + 1) n)) (filter p (range_with_len (a + 1) n))) t) (sym (ap p same ∙ passes)) (0, omega arith, same)
    by false e rest = kept (p a) (rest (past a t low (eqb-false a t e)) (omega (arith, high)) passes)
      where
        past : (a t : ℕ) → a ≤ t → (a ≡ t → ⊥) → a + 1 ≤ t
        past a t low other = elim (eq-or-lt_of_le low) [
          | inl same ↦ absurd (other same)
          | inr less ↦ omega (arith, less)
        ]

-- the thread of a line is one that there is
asked_within : (lines : List Line) (t : ℕ) → AllThreads lines → is_asked (requests lines) t ≡ true → (1 ≤ t) × (t ≤ 16)
asked_within [] t h k = absurd (true≢false (sym k))
asked_within (l ∷ ls) t h k = by (l.thread == t) refl k (asked_within ls t (λ i d m. h (suc i) d (omega (arith, m))))
  where
    by : (b : Bool) → (l.thread == t) ≡ b → (b || is_asked (requests ls) t) ≡ true → (is_asked (requests ls) t ≡ true → (1 ≤ t) × (t ≤ 16)) → (1 ≤ t) × (t ≤ 16)
    by true e k rest = subst (λ n. (1 ≤ n) × (n ≤ 16)) (eqb-true l.thread t e) (h 0 l (omega arith))
    by false e k rest = rest k

-- so a thread that is asked is one of the threads
pub asked_stands : (lines : List Line) (t : ℕ) → AllThreads lines → is_asked (requests lines) t ≡ true → Contains (threads_of (requests lines)) t
asked_stands lines t within has =
    let range = asked_within lines t within has in
    range_filter (is_asked (requests lines)) t 1 16 range.0 (let most = range.1 in omega (arith, most)) has

stands_asked : (lines : List Line) (t : ℕ) → Contains (threads_of (requests lines)) t → is_asked (requests lines) t ≡ true
stands_asked lines t c = subst (λ u. is_asked (requests lines) u ≡ true) c.2 (filter_passes (is_asked (requests lines)) (range_with_len 1 16) c.0 t c.1)

-- and one that isn't asked has no entry
pub no_entries : (lines : List Line) (t : ℕ) (history : List Entry) → All (λ (e : Entry). Contains (threads_of (requests lines)) e.thread) history → is_asked (requests lines) t ≡ false → entries_of t history ≡ []
no_entries lines t [] h none = refl
no_entries lines t (e ∷ es) h none = by (e.thread == t) refl (no_entries lines t es (λ i d m. h (suc i) d (omega (arith, m))) none)
  where
    by : (b : Bool) → (e.thread == t) ≡ b → entries_of t es ≡ [] → cond b (e ∷ entries_of t es) (entries_of t es) ≡ []
    by true same rest = absurd (true≢false (sym (stands_asked lines t (subst (Contains (threads_of (requests lines))) (eqb-true e.thread t same) (h 0 e (omega arith)))) ∙ none))
    by false same rest = rest

range_above : (a b n : ℕ) → a < b → All (λ (x : ℕ). a < x) (range_with_len b n)
range_above a b zero less k d m = absurd (omega (arith, m))
range_above a b (suc n) less zero d m = less
range_above a b (suc n) less (suc k) d m = range_above a (b + 1) n (omega (arith, less)) k d (omega (arith, m))

range_ascends : (a n : ℕ) → AllPairs (λ (x : ℕ) y. x < y) (range_with_len a n)
range_ascends a zero = λ i j d less m. absurd (omega (arith, m))
range_ascends a (suc n) = AllPairs-cons (λ (x : ℕ) y. x < y) a (range_with_len (a + 1) n) (range_above a (a + 1) n (omega arith)) (range_ascends (a + 1) n)

-- the threads that are asked ascend
pub threads_ascend : (lines : List Line) → AllPairs (λ (x : ℕ) y. x < y) (threads_of (requests lines))
threads_ascend lines = AllPairs-filter (λ (x : ℕ) y. x < y) (is_asked (requests lines)) (range_with_len 1 16) (range_ascends 1 16)
