-- Numbered blocks
use Rattle.std.proofs.Common.{◌≡◌, ◌≢◌, ℕ, ◌+◌, ◌<◌, ◌≤◌, ◌==◌, ◌&&◌, Bool, true, false, List, [], ◌∷◌, refl, sym, ap, ◌∙◌, subst, arith, ◌⊎◌, inl, inr, length, slice_get, slice_set, Option, Some, None, zero, suc, nat_lt, unwrap_or, if◌then◌else◌, cond, IsTrue, ◌↔◌, ◌||◌, drop}
use Rattle.std.proofs.lemmas.Grind.{common_steps}
use Rattle.std.proofs.lemmas.Bool.{eq-eqb, eqb-true, ltb-true, lt-ltb}
use Rattle.std.proofs.lemmas.Bool.Decides.{eqb_tells}
use Rattle.std.specs.List.{AllByRecursion}
use Rattle.std.specs.List.Sorted.{IsStrictlySortedBy}
use Rattle.std.specs.declared.cmp.Ordering.TheVariants.{Less}
use Rattle.az_base.specs.declared.block_id.BlockId.{BlockId}
use Rattle.az_base.specs.Ids.{id_of, id_cmp, same_id}
use Rattle.quantum_space.specs.declared.shade.Shade.{Shade}
use Rattle.quantum_space.specs.declared.shade.Shade.TheVariants as shade
use Rattle.quantum_space.specs.Shapes.{Has}
use Rattle.quantum_space.proofs.Lists.{same_or_not, itself}
use Rattle.az_base.specs.declared.action.Action.{Action}
use Rattle.zone_model.specs.State.{is_nil}
use Rattle.finalise_pass.specs.Finalisers.{with_done}
use Rattle.finalise_pass.specs.SmallGraphs.{numbered, row_at, small_shape, small_shades, small_finals}
use Rattle.finalise_pass.specs.Kept.{IsWatched}

pub length_numbered : (t a k : ℕ) → length (numbered t a k) ≡ k
length_numbered t a zero = refl
length_numbered t a (suc k) = ap suc (length_numbered t (suc a) k)

-- an earlier block comes before
id_less : (t a b : ℕ) → a < b → id_cmp (id_of t a) (id_of t b) ≡ Less
id_less t a b l = grind (arith, common_steps, l)

all_after : (t b a k : ℕ) → b < a → AllByRecursion (λ y. id_cmp (id_of t b) y ≡ Less) (numbered t a k)
all_after t b a zero l = tt
all_after t b a (suc k) l = (id_less t b a l, all_after t b (suc a) k (omega (arith, l)))

pub sorted_numbered : (t a k : ℕ) → IsStrictlySortedBy id_cmp (numbered t a k)
unfolding IsStrictlySortedBy
sorted_numbered t a zero = tt
sorted_numbered t a (suc k) = (all_after t a (suc a) k (omega arith), sorted_numbered t (suc a) k)

get_from : (t a k n : ℕ) → n < k → slice_get (numbered t a k) n ≡ Some (id_of t (a + n))
get_from t a zero n l = absurd (omega (arith, l))
get_from t a (suc k) zero l = ap (λ m. Some (id_of t m)) (omega arith)
get_from t a (suc k) (suc n) l = get_from t (suc a) k n (omega (arith, l)) ∙ ap (λ m. Some (id_of t m)) (omega arith)

pub get_numbered : (t k n : ℕ) → n < k → slice_get (numbered t 0 k) n ≡ Some (id_of t n)
get_numbered t k n l = get_from t 0 k n l ∙ ap (λ m. Some (id_of t m)) (omega arith)

pub past_numbered : (t a k n : ℕ) → k ≤ n → slice_get (numbered t a k) n ≡ None
past_numbered t a zero n l = refl
past_numbered t a (suc k) zero l = absurd (omega (arith, l))
past_numbered t a (suc k) (suc n) l = past_numbered t (suc a) k n (omega (arith, l))

has_from : (t a k : ℕ) (id : BlockId) → Has (numbered t a k) id → (id.thread ≡ t) × (a ≤ id.serial) × (id.serial < a + k)
has_from t a zero id h = absurd h
has_from t a (suc k) id (inl e) = (sym (ap (λ (b : BlockId). b.thread) e), (let s : a ≡ id.serial = ap (λ (b : BlockId). b.serial) e in omega (arith, s)), (let s : a ≡ id.serial = ap (λ (b : BlockId). b.serial) e in omega (arith, s)))
has_from t a (suc k) id (inr h) = let r = has_from t (suc a) k id h in (r.0, omega (arith, r.1), omega (arith, r.2))

pub has_numbered : (t k : ℕ) (id : BlockId) → Has (numbered t 0 k) id → (id.thread ≡ t) × (id.serial < k)
has_numbered t k id h = let r = has_from t 0 k id h in (r.0, omega (arith, r.2))

from_has : (t a k : ℕ) (serial : ℕ) → a ≤ serial → serial < a + k → Has (numbered t a k) (id_of t serial)
from_has t a zero n l m = absurd (omega (arith, l, m))
from_has t a (suc k) n l m = elim (eq_or_not a n) [ inl e ↦ inl (ap (id_of t) e) | inr d ↦ inr (from_has t (suc a) k n (omega (arith, l, d)) (omega (arith, m))) ]
  where
    eq_or_not : (a b : ℕ) → (a ≡ b) ⊎ (a ≢ b)
    eq_or_not zero zero = inl refl
    eq_or_not zero (suc b) = inr (λ e. cc)
    eq_or_not (suc a) zero = inr (λ e. cc)
    eq_or_not (suc a) (suc b) = elim (eq_or_not a b) [ inl e ↦ inl (ap suc e) | inr n ↦ inr (λ e. n (omega (arith, e))) ]

pub numbered_has : (t k : ℕ) (id : BlockId) → id.thread ≡ t → id.serial < k → Has (numbered t 0 k) id
numbered_has t k id e l = subst (λ (n : ℕ). Has (numbered t 0 k) (id_of n id.serial)) (sym e) (subst (λ (n : ℕ). Has (numbered n 0 k) (id_of t id.serial)) refl (from_has t 0 k id.serial (omega arith) (omega (arith, l))))

ids_equal : (a b : BlockId) → a.thread ≡ b.thread → a.serial ≡ b.serial → a ≡ b
ids_equal a b e f = ap (λ n. id_of n a.serial) e ∙ ap (λ n. id_of b.thread n) f

set_same : {X : Type 0} (xs : List X) (i : ℕ) (x d : X) → i < length xs → unwrap_or (slice_get (slice_set xs i x) i) d ≡ x
set_same [] i x d l = absurd (omega (arith, l))
set_same (y ∷ xs) zero x d l = refl
set_same (y ∷ xs) (suc i) x d l = set_same xs i x d (omega (arith, l))

set_other : {X : Type 0} (xs : List X) (i j : ℕ) (x d : X) → j ≢ i → unwrap_or (slice_get (slice_set xs i x) j) d ≡ unwrap_or (slice_get xs j) d
set_other [] i j x d n = refl
set_other (y ∷ xs) zero zero x d n = absurd (n refl)
set_other (y ∷ xs) zero (suc j) x d n = refl
set_other (y ∷ xs) (suc i) zero x d n = refl
set_other (y ∷ xs) (suc i) (suc j) x d n = set_other xs i j x d (λ e. n (ap suc e))

-- the test that `has_block` makes
pub has_test : (t k len : ℕ) (id : BlockId) → len ≡ k → id.thread ≡ t → IsTrue (nat_lt id.serial len) ↔ Has (numbered t 0 k) id
has_test t k len id same e = (
  (λ h. let l = ltb-true id.serial len h in numbered_has t k id e (omega (arith, l, same))),
  (λ h. let r = has_numbered t k id h in lt-ltb id.serial len (omega (arith, r.1, same))),
)

pub has_not : (t k : ℕ) (id : BlockId) (r : Bool) → r ≡ false → (id.thread == t) ≡ false → IsTrue r ↔ Has (numbered t 0 k) id
has_not t k id r f e = (
  (λ h. (let k : true ≡ false = sym h ∙ f in cc)),
  (λ h. (let r = has_numbered t k id h in let m : true ≡ false = sym (eq-eqb id.thread t r.0) ∙ e in cc)),
)

-- one shade is set
pub set_small : (t : ℕ) (xs : List Shade) (id : BlockId) (x : Shade) → id.thread ≡ t → id.serial < length xs → (q : BlockId) → small_shades t (slice_set xs id.serial x) q ≡ (if same_id id q then x else small_shades t xs q)
set_small t xs id x e l q = elim (same_or_not id q) [
  | inl k ↦ rw (ap (same_id id) (sym k) ∙ itself id) (subst (λ (p : BlockId). small_shades t (slice_set xs id.serial x) p ≡ x) k
      (ap (λ b. cond b (unwrap_or (slice_get (slice_set xs id.serial x) id.serial) shade.White) shade.White) (eq-eqb id.thread t e) ∙ set_same xs id.serial x shade.White l))
  | inr n ↦ rw n.1 (elim (eqb_tells q.thread t) [
    | inr f ↦ ap (λ b. cond b (unwrap_or (slice_get (slice_set xs id.serial x) q.serial) shade.White) shade.White) f.0 ∙ sym (ap (λ b. cond b (unwrap_or (slice_get xs q.serial) shade.White) shade.White) f.0)
    | inl f ↦ ap (λ y. cond (q.thread == t) y shade.White) (set_other xs id.serial q.serial x shade.White (λ k. n.0 (ids_equal id q (e ∙ sym f.1) (sym k))))
  ])
]

-- a block that isn't there stays white in a smaller list
pub set_none : (t : ℕ) (xs : List Shade) (id : BlockId) (x : Shade) → Has (numbered t 0 (length xs)) id → length xs ≤ id.serial → ⊥
set_none t xs id x h l = let r = has_numbered t (length xs) id h in omega (arith, r.1, l)

get_past : {X : Type 0} (xs : List X) (i : ℕ) (d : X) → length xs ≤ i → unwrap_or (slice_get xs i) d ≡ d
get_past [] i d l = refl
get_past (x ∷ xs) zero d l = absurd (omega (arith, l))
get_past (x ∷ xs) (suc i) d l = get_past xs i d (omega (arith, l))

-- a block with an action is one of the thread's
record Acts (t : ℕ) (actions : List (List Action)) (id : BlockId) : Type 0 where
  pub thread : id.thread ≡ t
  pub below : id.serial < length actions

acts : (t : ℕ) (actions : List (List Action)) (id : BlockId) → is_nil (if id.thread == t then unwrap_or (slice_get actions id.serial) [] else []) ≡ false → Acts t actions id
acts t actions id h = elim (eqb_tells id.thread t) [
  | inr f ↦ (let k : is_nil (if id.thread == t then unwrap_or (slice_get actions id.serial) [] else []) ≡ true = ap (λ b. is_nil (cond b (unwrap_or (slice_get actions id.serial) []) [])) f.0 in cc)
  | inl f ↦ elim (below_or_not id.serial (length actions)) [
    | inl l ↦ record { thread = f.1; below = l }
    | inr l ↦ (let k : is_nil (if id.thread == t then unwrap_or (slice_get actions id.serial) [] else []) ≡ true = ap (λ b. is_nil (cond b (unwrap_or (slice_get actions id.serial) []) [])) f.0 ∙ ap is_nil (get_past actions id.serial [] l) in cc)
  ]
]
  where
    below_or_not : (m n : ℕ) → (m < n) ⊎ (n ≤ m)
    below_or_not m zero = inr (omega arith)
    below_or_not zero (suc n) = inl (omega arith)
    below_or_not (suc m) (suc n) = elim (below_or_not m n) [ inl l ↦ inl (omega (arith, l)) | inr l ↦ inr (omega (arith, l)) ]

-- one block more is done
pub done_small : (t : ℕ) (roots : List (Option BlockId)) (actions : List (List Action)) (words : List BlockId) (done : List Bool) (id : BlockId)
    → is_nil (if id.thread == t then unwrap_or (slice_get actions id.serial) [] else []) ≡ false → length actions ≡ length done
    → small_finals t roots actions words (slice_set done id.serial true) ≡ with_done (small_finals t roots actions words done) id
done_small t roots actions words done id h e = λ i. record {
  roots = λ q. unwrap_or (slice_get roots q) None;
  actions = λ b. if b.thread == t then unwrap_or (slice_get actions b.serial) [] else [];
  strong = λ b at. slice_get words at;
  done = λ q. each q i;
}
  where
    each : (q : BlockId) → ((q.thread == t) && unwrap_or (slice_get (slice_set done id.serial true) q.serial) false) ≡ (same_id id q || ((q.thread == t) && unwrap_or (slice_get done q.serial) false))
    each q = let a = acts t actions id h in elim (same_or_not id q) [
      | inl k ↦ rw (ap (same_id id) (sym k) ∙ itself id) (subst (λ (p : BlockId). ((p.thread == t) && unwrap_or (slice_get (slice_set done id.serial true) p.serial) false) ≡ true) k
          (ap (λ b. b && unwrap_or (slice_get (slice_set done id.serial true) id.serial) false) (eq-eqb id.thread t a.thread) ∙ set_same done id.serial true false (omega (arith, a.below, e))))
      | inr n ↦ rw n.1 (elim (eqb_tells q.thread t) [
        | inr f ↦ ap (λ b. b && unwrap_or (slice_get (slice_set done id.serial true) q.serial) false) f.0 ∙ sym (ap (λ b. b && unwrap_or (slice_get done q.serial) false) f.0)
        | inl f ↦ ap (λ y. (q.thread == t) && y) (set_other done id.serial q.serial true false (λ k. n.0 (ids_equal id q (a.thread ∙ sym f.1) (sym k))))
      ])
    ]

pub done_below : (t : ℕ) (actions : List (List Action)) (done : List Bool) (id : BlockId) → is_nil (if id.thread == t then unwrap_or (slice_get actions id.serial) [] else []) ≡ false → length actions ≡ length done → length done ≤ id.serial → ⊥
done_below t actions done id h e l = let a = acts t actions id h in omega (arith, a.below, e, l)

-- where every block is remembered, each edge leads from a remembered block
pub all_watched : (t n : ℕ) (rows : List (List BlockId)) (young : ℕ) (anchors some r : List BlockId) → IsWatched (small_shape t n rows young anchors true some) r
all_watched t n rows young anchors some r = record { edge = λ a b out here e. inl (numbered_has t n a (eqb-true a.thread t (and_first (a.thread == t) (nat_lt a.serial n) (within ((a.thread == t) && nat_lt a.serial n) (drop 0 (row_at rows a.serial)) b e))) (ltb-true a.serial n (and_second (a.thread == t) (nat_lt a.serial n) (within ((a.thread == t) && nat_lt a.serial n) (drop 0 (row_at rows a.serial)) b e)))) }
  where
    within : (c : Bool) (xs : List BlockId) (b : BlockId) → Has (cond c xs []) b → c ≡ true
    within true xs b h = refl
    within false xs b h = absurd h

    and_first : (x y : Bool) → (x && y) ≡ true → x ≡ true
    and_first true y e = refl
    and_first false y e = e

    and_second : (x y : Bool) → (x && y) ≡ true → y ≡ true
    and_second true y e = e
    and_second false y e = cc
