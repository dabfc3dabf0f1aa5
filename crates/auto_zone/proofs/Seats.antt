-- Lists of seats and sessions
use Rattle.std.proofs.Common.{◌≡◌, ◌≤◌, ◌<◌, ◌+◌, ◌==◌, ◌||◌, ◌&&◌, ◌↔◌, IsTrue, Bool, true, false, slice_index_or, eqb-true, eq-eqb, ◌∙◌, ℕ, zero, suc, length, List, [], ◌∷◌, ◌++◌, All, map, refl, sym, ap, subst, Contains, arith}
use Rattle.std.proofs.lemmas.List.{length-append}
use mathlib.Core.List.{IsPrefix}
use Rattle.zone_model.specs.declared.entry.Entry.{Entry}
use Rattle.zone_model.specs.History.{Ends, Legal, entries_of}
use Rattle.zone_model.specs.State.{State}
use Rattle.zone_model.specs.Stats.{stats_of}
use Rattle.zone_model.specs.declared.entry.Stats.{Stats}
use Rattle.auto_zone.specs.Sessions.{IsClosed}
use Rattle.auto_zone.specs.Endings.{has_thread, have_threads}
use Rattle.az_base.specs.declared.options.Options.{Options}
use Rattle.atomic_table.specs.Seated.{TableId}
use Rattle.auto_zone.specs.Shown.{SessionShown}
use Rattle.zone_gate.specs.Shown.{GateShown, HasAllThreads, SeatShown, new_seat}

pub all_head : {X : Type 0} (P : X → Type 0) (xs : List X) (x : X) (ys : List X) → xs ≡ x ∷ ys → All P xs → P x
all_head P xs x ys is all = (subst (All P) is all) 0 x (omega arith)

pub all_tail : {X : Type 0} (P : X → Type 0) (xs : List X) (x : X) (ys : List X) → xs ≡ x ∷ ys → All P xs → All P ys
all_tail P xs x ys is all = λ k d m. (subst (All P) is all) (suc k) d (omega (arith, m))

pub all_snoc : {X : Type 0} (P : X → Type 0) (xs : List X) (y : X) → All P xs → P y → All P (xs ++ y ∷ [])
all_snoc P [] y all one zero d m = one
all_snoc P [] y all one (suc k) d m = absurd (omega (arith, m))
all_snoc P (x ∷ xs) y all one zero d m = all 0 d (omega arith)
all_snoc P (x ∷ xs) y all one (suc k) d m = all_snoc P xs y (λ j b n. all (suc j) b (omega (arith, n))) one k d (omega (arith, m))

pub all_new : (id : TableId) (o : Options) (ts : List ℕ) → All (λ (s : SeatShown). s ≡ new_seat s.gate o s.thread) (map (new_seat id o) ts)
all_new id o [] k d m = absurd (omega (arith, m))
all_new id o (t ∷ ts) zero d m = refl
all_new id o (t ∷ ts) (suc k) d m = all_new id o ts k d (omega (arith, m))

pub moved : (ss : List SessionShown) (x : SessionShown) (seat : SeatShown) (rest : List SeatShown) → x.seat ≡ seat → map (λ (s : SessionShown). s.seat) ss ++ seat ∷ rest ≡ map (λ (s : SessionShown). s.seat) (ss ++ x ∷ []) ++ rest
moved [] x seat rest same = ap (λ s. s ∷ rest) (sym same)
moved (s ∷ ss) x seat rest same = ap (λ xs. s.seat ∷ xs) (moved ss x seat rest same)

pub closed_by : (o kept : Options) (threads : List ℕ) (ended seats : List SeatShown) (list journal : List Entry) (stats : Stats) → kept ≡ o → seats ≡ ended → list ≡ journal → Legal kept journal
    → All (λ (s : SeatShown). IsPrefix s.seen journal) seats → All (λ (s : SeatShown). entries_of s.thread journal ≡ s.own) seats → All (λ (e : Entry). Contains threads e.thread) journal → ((z : State) → Ends kept journal z → stats ≡ stats_of z) → IsClosed o threads ended list stats
closed_by o kept threads ended seats list journal stats same all is legal begins own others counted =
    subst (λ x. IsClosed x threads ended list stats) same (subst (λ ss. IsClosed kept threads ss list stats) all (subst (λ es. IsClosed kept threads seats es stats) (sym is) (record { legal = legal; begins = begins; own = own; others = others; counted = counted })))

pub room_on : {X Y : Type 0} (xs : List X) (x : X) (more : List X) (ys : List Y) (y : Y) (rest : List Y) (before after : ℕ) → more ≡ xs ++ x ∷ [] → ys ≡ y ∷ rest → after ≡ before → length xs + length ys ≤ before → length more + length rest ≤ after
room_on xs x more ys y rest before after grown is same room =
    let a : length more ≡ length xs + 1 = ap length grown ∙ length-append xs (x ∷ []) in
    let b : length ys ≡ suc (length rest) = ap length is in
    omega (arith, a, b, same, room)

one_later : (s : SeatShown) (ss : List SeatShown) (t : ℕ) → Contains (map (λ (s : SeatShown). s.thread) ss) t → Contains (map (λ (s : SeatShown). s.thread) (s ∷ ss)) t
one_later s ss t c = (suc c.0, at (length (map (λ (s : SeatShown). s.thread) ss)) c.0 c.1, c.2)
  where
    at : (n k : ℕ) → k < n → suc k < suc n
    at n k h = omega (arith, h)

one_of : (s : SeatShown) (ss : List SeatShown) (t : ℕ) → (has_thread ss t ≡ true → Contains (map (λ (s : SeatShown). s.thread) ss) t) → (b : Bool) → (s.thread == t) ≡ b → (b || has_thread ss t) ≡ true → Contains (map (λ (s : SeatShown). s.thread) (s ∷ ss)) t
one_of s ss t more true e k = (0, omega arith, eqb-true s.thread t e)
one_of s ss t more false e k = one_later s ss t (more k)

-- a thread has one of the seats exactly where the test says so
pub has_one : (ss : List SeatShown) (t : ℕ) → has_thread ss t ≡ true → Contains (map (λ (s : SeatShown). s.thread) ss) t
has_one [] t h = absurd cc
has_one (s ∷ ss) t h = one_of s ss t (has_one ss t) (s.thread == t) refl h

pub one_has : (ss : List SeatShown) (t k : ℕ) → k < length (map (λ (s : SeatShown). s.thread) ss) → slice_index_or (map (λ (s : SeatShown). s.thread) ss) k t ≡ t → has_thread ss t ≡ true
one_has [] t k h is = absurd (omega (arith, h))
one_has (s ∷ ss) t zero h is = ap (λ b. b || has_thread ss t) (eq-eqb s.thread t is)
one_has (s ∷ ss) t (suc k) h is = by (s.thread == t) (one_has ss t k (omega (arith, h)) is)
  where
    by : (b : Bool) → has_thread ss t ≡ true → (b || has_thread ss t) ≡ true
    by true e = refl
    by false e = e

both : (a b : Bool) → (a && b) ≡ true → (a ≡ true) × (b ≡ true)
both true b h = (refl, h)
both false b h = cc (h)

all_have : (ss : List SeatShown) (ts : List ℕ) → have_threads ss ts ≡ true → (t k : ℕ) → k < length ts → slice_index_or ts k t ≡ t → has_thread ss t ≡ true
all_have ss [] h t k m is = absurd (omega (arith, m))
all_have ss (u ∷ ts) h t zero m is = subst (λ x. has_thread ss x ≡ true) is (both (has_thread ss u) (have_threads ss ts) h).0
all_have ss (u ∷ ts) h t (suc k) m is = all_have ss ts (both (has_thread ss u) (have_threads ss ts) h).1 t k (omega (arith, m)) is

have_all : (ss : List SeatShown) (ts : List ℕ) → ((t : ℕ) → Contains ts t → Contains (map (λ (s : SeatShown). s.thread) ss) t) → have_threads ss ts ≡ true
have_all ss [] h = refl
have_all ss (u ∷ ts) h =
    let first = h u (0, omega arith, refl) in
    let here = one_has ss u first.0 first.1 first.2 in
    let rest = have_all ss ts (λ t c. h t (suc c.0, at c.0 c.1, c.2)) in
    ap (λ b. b && have_threads ss ts) here ∙ rest
  where
    at : (k : ℕ) → k < length ts → suc k < suc (length ts)
    at k m = omega (arith, m)

-- so it is of all threads of a zone
pub all_in_is : (g : GateShown) (ss : List SeatShown) (b : Bool) (ts : List ℕ) → ts ≡ g.threads → b ≡ have_threads ss ts → IsTrue b ↔ HasAllThreads g ss
all_in_is g ss b ts same is = (
  λ h t c. has_one ss t (let d = subst (λ us. Contains us t) (sym same) c in all_have ss ts (sym is ∙ h) t d.0 d.1 d.2),
  λ h. is ∙ have_all ss ts (λ t c. h t (subst (λ us. Contains us t) same c)),
)
