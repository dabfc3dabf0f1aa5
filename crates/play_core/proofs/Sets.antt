-- The sets of several threads, each found by its thread
use Rattle.std.proofs.Common.{◌≡◌, ◌≢◌, ◌==◌, ◌<◌, ◌⊎◌, inl, inr, ℕ, zero, suc, Bool, true, false, cond, nat_lt, List, [], ◌∷◌, Option, Some, None, find, length, slice_get, slice_set, refl, sym, ap, subst, ◌∙◌, arith, ne_eqb, eq-eqb, eqb-true, position}
use Rattle.std.specs.List.{position_or_len}
use Rattle.std.proofs.lemmas.Bool.{ltb-true, ltb-false}
use Rattle.std.proofs.lemmas.List.Folds.{find_at}
use Rattle.std.proofs.lemmas.Option.{slice_get_past}
use Rattle.local_set.specs.LocalSets.{LocalSet}
use Rattle.play_core.specs.Worlds.{threads_in, IsBelow, Ascending}

abbrev pub is_of : ℕ → LocalSet → Bool
is_of t l = l.thread == t

pub one_set : {X : Type 0} (x y : X) → Some x ≡ Some y → x ≡ y
one_set x y h = cc (h)

some_none : {X : Type 0} (x : X) → Some x ≡ None → ⊥
some_none x h = cc (h)

-- what is found is of the thread
pub found_is : (t : ℕ) (xs : List LocalSet) (l : LocalSet) → find (is_of t) xs ≡ Some l → l.thread ≡ t
found_is t [] l h = absurd (some_none l (sym h))
found_is t (x ∷ xs) l h = by (x.thread == t) refl h (found_is t xs l)
  where
    by : (b : Bool) → (x.thread == t) ≡ b → cond b (Some x) (find (is_of t) xs) ≡ Some l → (find (is_of t) xs ≡ Some l → l.thread ≡ t) → l.thread ≡ t
    by true e k rest = ap (λ (y : LocalSet). y.thread) (sym (one_set x l k)) ∙ eqb-true x.thread t e
    by false e k rest = rest k

-- and stands at a place
pub found_at : (t : ℕ) (xs : List LocalSet) (l : LocalSet) → find (is_of t) xs ≡ Some l → (at : ℕ) × (slice_get xs at ≡ Some l)
found_at t xs l h = (position_or_len (is_of t) xs, sym (find_at (is_of t) xs) ∙ h)

there_is : (xs : List LocalSet) (i : ℕ) → i < length xs → slice_get xs i ≡ None → ⊥
there_is [] i lt h = omega (arith, lt)
there_is (x ∷ xs) zero lt h = some_none x h
there_is (x ∷ xs) (suc i) lt h = there_is xs i (omega (arith, lt)) h

-- the place of a thread's set
pub placed : (t at : ℕ) (xs : List LocalSet) → position (is_of t) xs ≡ Some at → (l : LocalSet) × (slice_get xs at ≡ Some l) × (find (is_of t) xs ≡ Some l) × (l.thread ≡ t) × (at < length xs)
placed t at xs h = by (nat_lt (position_or_len (is_of t) xs) (length xs)) refl h (find (is_of t) xs) refl
  where
    by : (b : Bool) → nat_lt (position_or_len (is_of t) xs) (length xs) ≡ b → cond b (Some (position_or_len (is_of t) xs)) None ≡ Some at → (o : Option LocalSet) → find (is_of t) xs ≡ o
        → (l : LocalSet) × (slice_get xs at ≡ Some l) × (find (is_of t) xs ≡ Some l) × (l.thread ≡ t) × (at < length xs)
    by false e k o f = absurd (some_none at (sym k))
    by true e k (Some l) f =
        let is = one_set (position_or_len (is_of t) xs) at k in
        let within : position_or_len (is_of t) xs < length xs = ltb-true (position_or_len (is_of t) xs) (length xs) e in
        (l, ap (slice_get xs) (sym is) ∙ sym (find_at (is_of t) xs) ∙ f, f, found_is t xs l f, subst (λ n. n < length xs) is within)
    by true e k None f =
        let within : position_or_len (is_of t) xs < length xs = ltb-true (position_or_len (is_of t) xs) (length xs) e in
        absurd (there_is xs (position_or_len (is_of t) xs) within (sym (find_at (is_of t) xs) ∙ f))

pub not_placed : (t : ℕ) (xs : List LocalSet) → position (is_of t) xs ≡ None → find (is_of t) xs ≡ None
not_placed t xs h = by (nat_lt (position_or_len (is_of t) xs) (length xs)) refl h
  where
    by : (b : Bool) → nat_lt (position_or_len (is_of t) xs) (length xs) ≡ b → cond b (Some (position_or_len (is_of t) xs)) None ≡ None → find (is_of t) xs ≡ None
    by true e k = absurd (some_none (position_or_len (is_of t) xs) k)
    by false e k = find_at (is_of t) xs ∙ slice_get_past xs (position_or_len (is_of t) xs) (ltb-false (position_or_len (is_of t) xs) (length xs) e)

below_in : (t : ℕ) (xs : List LocalSet) (at : ℕ) (l : LocalSet) → IsBelow t (threads_in xs) → slice_get xs at ≡ Some l → t < l.thread
below_in t [] at l below here = absurd (some_none l (sym here))
below_in t (x ∷ xs) zero l below here = subst (λ (y : LocalSet). t < y.thread) (one_set x l here) below.0
below_in t (x ∷ xs) (suc at) l below here = below_in t xs at l below.1 here

less_apart : (t u : ℕ) → t < u → (t == u) ≡ false
less_apart t u lt = ne_eqb t u (λ e. omega (arith, lt, e))

more_apart : (t u : ℕ) → t < u → (u == t) ≡ false
more_apart t u lt = ne_eqb u t (λ e. omega (arith, lt, e))

-- sets at different places are of different threads
pub apart : (xs : List LocalSet) (i j : ℕ) (a b : LocalSet) → Ascending (threads_in xs) → slice_get xs i ≡ Some a → slice_get xs j ≡ Some b → i ≢ j → (a.thread == b.thread) ≡ false
apart [] i j a b up ha hb other = absurd (some_none a (sym ha))
apart (x ∷ xs) zero zero a b up ha hb other = absurd (other refl)
apart (x ∷ xs) zero (suc j) a b up ha hb other = subst (λ (y : LocalSet). (y.thread == b.thread) ≡ false) (one_set x a ha) (less_apart x.thread b.thread (below_in x.thread xs j b up.0 hb))
apart (x ∷ xs) (suc i) zero a b up ha hb other = subst (λ (y : LocalSet). (a.thread == y.thread) ≡ false) (one_set x b hb) (more_apart x.thread a.thread (below_in x.thread xs i a up.0 ha))
apart (x ∷ xs) (suc i) (suc j) a b up ha hb other = apart xs i j a b up.1 ha hb (λ e. other (ap suc e))

-- the set at a place is found by its thread
pub found_there : (xs : List LocalSet) (at : ℕ) (l : LocalSet) → Ascending (threads_in xs) → slice_get xs at ≡ Some l → find (is_of l.thread) xs ≡ Some l
found_there [] at l up here = absurd (some_none l (sym here))
found_there (x ∷ xs) zero l up here = ap (λ b. cond b (Some x) (find (is_of l.thread) xs)) (eq-eqb x.thread l.thread (ap (λ (y : LocalSet). y.thread) (one_set x l here))) ∙ here
found_there (x ∷ xs) (suc at) l up here = ap (λ b. cond b (Some x) (find (is_of l.thread) xs)) (less_apart x.thread l.thread (below_in x.thread xs at l up.0 here)) ∙ found_there xs at l up.1 here

-- after a write the threads are the same
pub threads_set : (xs : List LocalSet) (at : ℕ) (l m : LocalSet) → slice_get xs at ≡ Some l → m.thread ≡ l.thread → threads_in (slice_set xs at m) ≡ threads_in xs
threads_set [] at l m here same = absurd (some_none l (sym here))
threads_set (x ∷ xs) zero l m here same = ap (λ t. t ∷ threads_in xs) (same ∙ ap (λ (y : LocalSet). y.thread) (sym (one_set x l here)))
threads_set (x ∷ xs) (suc at) l m here same = ap (λ ts. x.thread ∷ ts) (threads_set xs at l m here same)

pub set_here : {X : Type 0} (xs : List X) (i : ℕ) (v w : X) → slice_get xs i ≡ Some w → slice_get (slice_set xs i v) i ≡ Some v
set_here [] i v w h = cc (h)
set_here (x ∷ xs) zero v w h = refl
set_here (x ∷ xs) (suc i) v w h = set_here xs i v w h

-- an item after a write
pub set_at : {X : Type 0} (xs : List X) (i j : ℕ) (v w : X) → slice_get (slice_set xs i v) j ≡ Some w → ((i ≡ j) × (v ≡ w)) ⊎ ((i ≢ j) × (slice_get xs j ≡ Some w))
set_at [] i j v w h = cc (h)
set_at (x ∷ xs) zero zero v w h = inl (refl, cc)
set_at (x ∷ xs) zero (suc j) v w h = inr ((λ e. absurd (omega (arith, e))), h)
set_at (x ∷ xs) (suc i) zero v w h = inr ((λ e. absurd (omega (arith, e))), h)
set_at (x ∷ xs) (suc i) (suc j) v w h = elim (set_at xs i j v w h) [
  | inl s ↦ inl (ap suc s.0, s.1)
  | inr s ↦ inr ((λ e. s.0 (omega (arith, e))), s.1)
]

-- and of the other threads the same are found
pub found_others : (xs : List LocalSet) (at u : ℕ) (l m : LocalSet) → slice_get xs at ≡ Some l → m.thread ≡ l.thread → (l.thread == u) ≡ false → find (is_of u) (slice_set xs at m) ≡ find (is_of u) xs
found_others [] at u l m here same other = absurd (some_none l (sym here))
found_others (x ∷ xs) zero u l m here same other =
    ap (λ b. cond b (Some m) (find (is_of u) xs)) (ap (λ n. n == u) same ∙ other)
    ∙ sym (ap (λ b. cond b (Some x) (find (is_of u) xs)) (ap (λ (y : LocalSet). y.thread == u) (one_set x l here) ∙ other))
found_others (x ∷ xs) (suc at) u l m here same other = ap (λ o. cond (x.thread == u) (Some x) o) (found_others xs at u l m here same other)
