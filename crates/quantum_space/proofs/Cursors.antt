-- What cursors keep
use Rattle.std.proofs.Common.{◌≡◌, ◌≢◌, ◌⊎◌, inl, inr, ℕ, zero, suc, ◌+◌, ◌*◌, ◌<◌, ◌≤◌, max, List, [], ◌∷◌, ◌++◌, refl, sym, ap, ◌∙◌, subst, arith, length, get_or, set, replicate, get_or-set_same, get_or-set_other}
use Rattle.std.proofs.Math.ListN.{length-set}
use Rattle.quantum_space.specs.Holes.{IsHole, IsFirstHole, NoHoleWithin}
use Rattle.quantum_space.specs.AdminMaps.{AdminMap', AllAre, AreCursors, HasNoHole, IsFirstIn, IsHoleIn, IsLength, SameOutside, with_bytes}
use Rattle.quantum_space.proofs.Runs.{below_or}

-- before or behind or the same
pub three_ways : (a b : ℕ) → (a < b) ⊎ ((a ≡ b) ⊎ (b < a))
three_ways zero zero = inr (inl refl)
three_ways zero (suc b) = inl (omega arith)
three_ways (suc a) zero = inr (inr (omega arith))
three_ways (suc a) (suc b) = elim (three_ways a b) [ inl l ↦ inl (omega (arith, l)) | inr e ↦ elim e [ inl s ↦ inr (inl (ap suc s)) | inr l ↦ inr (inr (omega (arith, l))) ] ]

-- a position tells its row and its place there
pub one_row : (w a b i j : ℕ) → a * w + i ≡ b * w + j → i < w → j < w → (a ≡ b) × (i ≡ j)
one_row w zero zero i j e l k = (refl, (let d : 0 * w ≡ 0 = omega arith in omega (arith, e, d)))
one_row w zero (suc b) i j e l k = absurd (let s : suc b * w ≡ w + b * w = omega arith in let z : 0 * w ≡ 0 = omega arith in omega (arith, e, s, z, l))
one_row w (suc a) zero i j e l k = absurd (let s : suc a * w ≡ w + a * w = omega arith in let z : 0 * w ≡ 0 = omega arith in omega (arith, e, s, z, k))
one_row w (suc a) (suc b) i j e l k =
    let m : a * w + i ≡ b * w + j = (let s : suc a * w + i ≡ w + (a * w + i) = omega arith in let t : suc b * w + j ≡ w + (b * w + j) = omega arith in omega (arith, s, t, e)) in
    let r = one_row w a b i j m l k in (ap suc r.0, r.1)

-- a later row begins at the end of an earlier one, or behind it
pub row_after : (w a b : ℕ) → a < b → a * w + w ≤ b * w
row_after w a zero l = absurd (omega (arith, l))
row_after w zero (suc b) l = omega arith
row_after w (suc a) (suc b) l = omega (arith, row_after w a b (omega (arith, l)))

-- the cursor of one subzone and length is set
pub low_set : (m : AdminMap') (low first : List ℕ) (s len x : ℕ) → AreCursors m low first → s < m.subzones → len < 33 → x ≤ m.size
    → ((q : ℕ) → q < x → ¬ IsHoleIn m s q len) → AreCursors m (set low (s * 33 + len) x) first
low_set m low first s len x c l k within none = record {
  sized = c.sized;
  rows = length-set low (s * 33 + len) x ∙ c.rows;
  within = λ j. elim (three_ways j (s * 33 + len)) [
    | inl b ↦ subst (λ y. y ≤ m.size) (sym (get_or-set_other low (s * 33 + len) j x 0 (λ e. absurd (omega (arith, b, e))))) (c.within j)
    | inr e ↦ elim e [
      | inl same ↦ subst (λ i. get_or (set low (s * 33 + len) x) i 0 ≤ m.size) (sym same) (subst (λ y. y ≤ m.size) (sym (get_or-set_same low (s * 33 + len) x 0 inside)) within)
      | inr b ↦ subst (λ y. y ≤ m.size) (sym (get_or-set_other low (s * 33 + len) j x 0 (λ e. absurd (omega (arith, b, e))))) (c.within j)
    ]
  ];
  near = c.near;
  below = go;
  before = c.before;
}
  where
    inside : s * 33 + len < length low
    inside = omega (arith, c.rows, row_after 33 s m.subzones l, k)

    other : (t n q : ℕ) → IsLength n → (t * 33 + n ≢ s * 33 + len) → q < get_or (set low (s * 33 + len) x) (t * 33 + n) 0 → ¬ IsHoleIn m t q n
    other t n q i apart b = c.below t n q i (subst (λ y. q < y) (get_or-set_other low (s * 33 + len) (t * 33 + n) x 0 apart) b)

    go : (t n q : ℕ) → IsLength n → q < get_or (set low (s * 33 + len) x) (t * 33 + n) 0 → ¬ IsHoleIn m t q n
    go t n q i b = elim (three_ways (t * 33 + n) (s * 33 + len)) [
      | inl a ↦ other t n q i (λ e. absurd (omega (arith, a, e))) b
      | inr e ↦ elim e [
        | inl same ↦ (let r = one_row 33 t s n len same (omega (arith, i.1)) k in
            subst (λ (u : ℕ). ¬ IsHoleIn m u q n) (sym r.0) (subst (λ (v : ℕ). ¬ IsHoleIn m s q v) (sym r.1)
            (none q (subst (λ y. q < y) (ap (λ j. get_or (set low (s * 33 + len) x) j 0) same ∙ get_or-set_same low (s * 33 + len) x 0 inside) b))))
        | inr a ↦ other t n q i (λ e. absurd (omega (arith, a, e))) b
      ]
    ]

-- the cursor over subzones of one length is set
pub first_set : (m : AdminMap') (low first : List ℕ) (len x : ℕ) → AreCursors m low first → len < length first → x ≤ m.subzones
    → ((s : ℕ) → s < x → HasNoHole m len s) → AreCursors m low (set first len x)
first_set m low first len x c k within none = record {
  sized = c.sized;
  rows = c.rows;
  within = c.within;
  near = λ j. elim (three_ways j len) [
    | inl b ↦ subst (λ y. y ≤ m.subzones) (sym (get_or-set_other first len j x 0 (λ e. absurd (omega (arith, b, e))))) (c.near j)
    | inr e ↦ elim e [
      | inl same ↦ subst (λ i. get_or (set first len x) i 0 ≤ m.subzones) (sym same) (subst (λ y. y ≤ m.subzones) (sym (get_or-set_same first len x 0 k)) within)
      | inr b ↦ subst (λ y. y ≤ m.subzones) (sym (get_or-set_other first len j x 0 (λ e. absurd (omega (arith, b, e))))) (c.near j)
    ]
  ];
  below = c.below;
  before = go;
}
  where
    go : (n s : ℕ) → IsLength n → s < get_or (set first len x) n 0 → HasNoHole m n s
    go n s i b = elim (three_ways n len) [
      | inl a ↦ c.before n s i (subst (λ y. s < y) (get_or-set_other first len n x 0 (λ e. absurd (omega (arith, a, e)))) b)
      | inr e ↦ elim e [
        | inl same ↦ subst (λ (v : ℕ). HasNoHole m v s) (sym same) (none s (subst (λ y. s < y) (ap (λ j. get_or (set first len x) j 0) same ∙ get_or-set_same first len x 0 k) b))
        | inr a ↦ c.before n s i (subst (λ y. s < y) (get_or-set_other first len n x 0 (λ e. absurd (omega (arith, a, e)))) b)
      ]
    ]

-- a search in a subzone from its cursor on tells of the whole subzone
pub found_in : (m : AdminMap') (low first : List ℕ) (s len at q : ℕ) → AreCursors m low first → IsLength len → at ≡ s * m.size + q
    → IsFirstHole m.bytes len (s * m.size + get_or low (s * 33 + len) 0) (s * m.size + m.size) at → IsFirstIn m len s q
found_in m low first s len at q c i e f = record {
  hole = (omega (arith, e, f.ends), subst (λ p. IsHole m.bytes p len) e f.free);
  first = λ k l h. elim (below_or k (get_or low (s * 33 + len) 0)) [
    | inl b ↦ c.below s len k i b h
    | inr b ↦ f.first (s * m.size + k) (omega (arith, b)) (omega (arith, e, l)) h.1
  ];
}

pub none_in : (m : AdminMap') (low first : List ℕ) (s len : ℕ) → AreCursors m low first → IsLength len
    → NoHoleWithin m.bytes len (s * m.size + get_or low (s * 33 + len) 0) (s * m.size + m.size) → HasNoHole m len s
none_in m low first s len c i none q h = elim (below_or q (get_or low (s * 33 + len) 0)) [
  | inl b ↦ c.below s len q i b h
  | inr b ↦ none (s * m.size + q) (omega (arith, b)) (omega (arith, h.0)) h.1
]

-- bytes with fewer free quanta have fewer holes
pub cursors_fewer : (m : AdminMap') (after low first : List ℕ) → AreCursors m low first → length after ≡ length m.bytes
    → ((k : ℕ) → get_or after k 0 ≡ 0 → get_or m.bytes k 0 ≡ 0) → AreCursors (with_bytes m after) low first
cursors_fewer m after low first c same was = record {
  sized = same ∙ c.sized;
  rows = c.rows;
  within = c.within;
  near = c.near;
  below = λ s len q i b h. c.below s len q i b (h.0, λ k l. was _ (h.1 k l));
  before = λ len s i b q h. c.before len s i b q (h.0, λ k l. was _ (h.1 k l));
}

pub free_before_set : (bytes : List ℕ) (at byte : ℕ) → at < length bytes → 0 < byte → (k : ℕ) → get_or (set bytes at byte) k 0 ≡ 0 → get_or bytes k 0 ≡ 0
free_before_set bytes at byte l used k e = elim (three_ways k at) [
  | inl b ↦ sym (get_or-set_other bytes at k byte 0 (λ s. absurd (omega (arith, b, s)))) ∙ e
  | inr x ↦ elim x [
    | inl s ↦ absurd (let z : byte ≡ 0 = sym (get_or-set_same bytes at byte 0 l) ∙ ap (λ j. get_or (set bytes at byte) j 0) (sym s) ∙ e in omega (arith, z, used))
    | inr b ↦ sym (get_or-set_other bytes at k byte 0 (λ s. absurd (omega (arith, b, s)))) ∙ e
  ]
]

-- where quanta were freed, cursors that went back far enough are right
module _ (m : AdminMap') (after low first lower earlier : List ℕ) (s q n : ℕ) (c : AreCursors m low first)
    (inside : q + n ≤ m.size)
    (same : length after ≡ length m.bytes)
    (outside : SameOutside m.bytes after (s * m.size + q) (s * m.size + q + n))
    (rows : length lower ≡ length low)
    (lowered : (k : ℕ) → get_or lower k 0 ≤ get_or low k 0)
    (back : (len : ℕ) → len < 33 → get_or lower (s * 33 + len) 0 + len ≤ max len (q + 1))
    (lowered_first : (len : ℕ) → get_or earlier len 0 ≤ get_or first len 0)
    (back_first : (len : ℕ) → get_or earlier len 0 ≤ s) where
  -- a hole in another subzone, or before what was freed, was one before
  was_hole : (t len k : ℕ) → ((i : ℕ) → i < len → (t * m.size + k + i < s * m.size + q) ⊎ (s * m.size + q + n ≤ t * m.size + k + i)) → IsHole after (t * m.size + k) len → IsHole m.bytes (t * m.size + k) len
  was_hole t len k apart h i l = sym (outside (t * m.size + k + i) (apart i l)) ∙ h i l

  none_below : (t len k : ℕ) → IsLength len → k < get_or lower (t * 33 + len) 0 → ¬ IsHoleIn (with_bytes m after) t k len
  none_below t len k i b h = elim (three_ways t s) [
    | inl l ↦ c.below t len k i (omega (arith, b, lowered (t * 33 + len))) (h.0, was_hole t len k (λ j e. inl (omega (arith, row_after m.size t s l, h.0, e))) h.1)
    | inr x ↦ elim x [
      | inl e ↦ c.below t len k i (omega (arith, b, lowered (t * 33 + len))) (h.0, was_hole t len k (λ j d. inl (here e j d)) h.1)
      | inr l ↦ c.below t len k i (omega (arith, b, lowered (t * 33 + len))) (h.0, was_hole t len k (λ j e. inr (omega (arith, row_after m.size s t l, inside))) h.1)
    ]
  ]
    where
      here : t ≡ s → (j : ℕ) → j < len → t * m.size + k + j < s * m.size + q
      here e j d =
          let r : t * m.size ≡ s * m.size = ap (λ x. x * m.size) e in
          let u : get_or lower (t * 33 + len) 0 ≡ get_or lower (s * 33 + len) 0 = ap (λ x. get_or lower (x * 33 + len) 0) e in
          omega (arith, r, u, b, d, back len (omega (arith, i.1)))

  none_before : (len t : ℕ) → IsLength len → t < get_or earlier len 0 → HasNoHole (with_bytes m after) len t
  none_before len t i b k h =
      c.before len t i (omega (arith, b, lowered_first len)) k (h.0, was_hole t len k (λ j e. inl (omega (arith, row_after m.size t s (omega (arith, b, back_first len)), h.0, e))) h.1)

  pub cursors_freed : AreCursors (with_bytes m after) lower earlier
  cursors_freed = record {
    sized = same ∙ c.sized;
    rows = rows ∙ c.rows;
    within = λ k. omega (arith, lowered k, c.within k);
    near = λ k. omega (arith, lowered_first k, c.near k);
    below = none_below;
    before = none_before;
  }

-- one subzone more changes no cursor
pub cursors_grown : (m n : AdminMap') (low lower first : List ℕ) → AreCursors m low first → n.size ≡ m.size → n.subzones ≡ m.subzones + 1
    → length n.bytes ≡ length m.bytes + m.size → length lower ≡ length low + 33
    → ((k : ℕ) → get_or n.bytes k 0 ≡ get_or m.bytes k 0) → ((k : ℕ) → get_or lower k 0 ≡ get_or low k 0) → AreCursors n lower first
cursors_grown m n low lower first c size subzones bytes rows same cursors = record {
  sized = (let e : n.subzones * n.size ≡ m.subzones * m.size + m.size = (ap (λ x. n.subzones * x) size ∙ ap (λ x. x * m.size) subzones ∙ omega arith) in omega (arith, e, bytes, c.sized));
  rows = omega (arith, rows, c.rows, subzones);
  within = λ k. omega (arith, cursors k, c.within k, size);
  near = λ k. omega (arith, c.near k, subzones);
  below = λ s len q i b h. c.below s len q i (omega (arith, b, cursors (s * 33 + len))) (was s q len h);
  before = λ len s i b q h. c.before len s i b q (was s q len h);
}
  where
    was : (s q len : ℕ) → IsHoleIn n s q len → IsHoleIn m s q len
    was s q len h = (omega (arith, h.0, size), λ i l. sym (same (s * m.size + q + i)) ∙ subst (λ z. get_or n.bytes (s * z + q + i) 0 ≡ 0) size (h.1 i l))

-- each item of a list in which one was set
pub set_cases : {X : Type 0} (P : ℕ → X → Type 0) (xs : List X) (i : ℕ) (x d : X) → i < length xs → P i x → ((k : ℕ) → k ≢ i → P k (get_or xs k d)) → (k : ℕ) → P k (get_or (set xs i x) k d)
set_cases P xs i x d l here other k = elim (three_ways k i) [
  | inl b ↦ (let n : k ≢ i = λ e. absurd (omega (arith, b, e)) in subst (P k) (sym (get_or-set_other xs i k x d n)) (other k n))
  | inr y ↦ elim y [
    | inl e ↦ subst (λ j. P j (get_or (set xs i x) j d)) (sym e) (subst (P i) (sym (get_or-set_same xs i x d l)) here)
    | inr b ↦ (let n : k ≢ i = λ e. absurd (omega (arith, b, e)) in subst (P k) (sym (get_or-set_other xs i k x d n)) (other k n))
  ]
]

pub set_lower : (xs was : List ℕ) (i x : ℕ) → i < length xs → x ≤ get_or xs i 0 → ((k : ℕ) → get_or xs k 0 ≤ get_or was k 0) → (k : ℕ) → get_or (set xs i x) k 0 ≤ get_or was k 0
set_lower xs was i x l m lower = set_cases (λ k y. y ≤ get_or was k 0) xs i x 0 l (omega (arith, m, lower i)) (λ k n. lower k)

pub set_back : (xs : List ℕ) (base len q x : ℕ) → base + len < length xs → x + len ≤ max len (q + 1) → ((n : ℕ) → n < len → get_or xs (base + n) 0 + n ≤ max n (q + 1))
    → (n : ℕ) → n < len + 1 → get_or (set xs (base + len) x) (base + n) 0 + n ≤ max n (q + 1)
set_back xs base len q x l m back n b =
    set_cases (λ k y. k ≡ base + n → y + n ≤ max n (q + 1)) xs (base + len) x 0 l
    (λ e. (let s : len ≡ n = omega (arith, e) in subst (λ j. x + j ≤ max j (q + 1)) s m))
    (λ k a e. (let p : n ≢ len = λ s. a (omega (arith, e, s)) in subst (λ j. get_or xs j 0 + n ≤ max n (q + 1)) (sym e) (back n (omega (arith, p, b))))) (base + n) refl

pub set_first : (xs : List ℕ) (len s x : ℕ) → len < length xs → x ≤ s → ((n : ℕ) → n < len → get_or xs n 0 ≤ s) → (n : ℕ) → n < len + 1 → get_or (set xs len x) n 0 ≤ s
set_first xs len s x l m back n b =
    set_cases (λ k y. k ≡ n → y ≤ s) xs len x 0 l (λ e. m) (λ k a e. subst (λ j. get_or xs j 0 ≤ s) (sym e) (back n (let p : n ≢ len = λ q. a (e ∙ q) in omega (arith, p, b)))) n refl

pub all_more : (xs : List ℕ) (from at x : ℕ) → at < length xs → AllAre xs from at x → AllAre (set xs at x) from (at + 1) x
all_more xs from at x l all k f b =
    set_cases (λ j y. j ≡ k → y ≡ x) xs at x 0 l (λ e. refl) (λ j a e. subst (λ i. get_or xs i 0 ≡ x) (sym e) (all k f (let p : k ≢ at = λ q. a (e ∙ q) in omega (arith, p, b)))) k refl

pub outside_more : (was xs : List ℕ) (from at x : ℕ) → from ≤ at → SameOutside was xs from at → SameOutside was (set xs at x) from (at + 1)
outside_more was xs from at x f same k o = get_or-set_other xs at k x 0 (apart o) ∙ same k (still o)
  where
    apart : (k < from) ⊎ (at + 1 ≤ k) → k ≢ at
    apart (inl l) e = absurd (omega (arith, l, e, f))
    apart (inr l) e = absurd (omega (arith, l, e))

    still : (k < from) ⊎ (at + 1 ≤ k) → (k < from) ⊎ (at ≤ k)
    still (inl l) = inl l
    still (inr l) = inr (omega (arith, l))

pub push_default : {X : Type 0} (xs : List X) (d : X) (k : ℕ) → get_or (xs ++ d ∷ []) k d ≡ get_or xs k d
push_default [] d zero = refl
push_default [] d (suc k) = refl
push_default (x ∷ xs) d zero = refl
push_default (x ∷ xs) d (suc k) = push_default xs d k

pub cursor_in : (m : AdminMap') (low first : List ℕ) (s len : ℕ) → AreCursors m low first → s < m.subzones → len < 33 → s * 33 + len < length low
cursor_in m low first s len c l k = omega (arith, c.rows, row_after 33 s m.subzones l, k)

pub byte_in : (m : AdminMap') (low first : List ℕ) (s : ℕ) → AreCursors m low first → s < m.subzones → s * m.size + m.size ≤ length m.bytes
byte_in m low first s c l = omega (arith, c.sized, row_after m.size s m.subzones l)

pub no_bytes : (k : ℕ) → get_or {A = ℕ} [] k 0 ≡ 0
no_bytes zero = refl
no_bytes (suc k) = refl

-- a map without subzones
pub cursors_none : (size : ℕ) (first : List ℕ) → ((len : ℕ) → get_or first len 0 ≡ 0) → AreCursors (record { size = size; subzones = 0; bytes = [] }) [] first
cursors_none size first none = record {
  sized = omega arith;
  rows = omega arith;
  within = λ k. omega (arith, no_bytes k);
  near = λ len. omega (arith, none len);
  below = λ s len q i b h. absurd (omega (arith, b, no_bytes (s * 33 + len)));
  before = λ len s i b q h. absurd (omega (arith, b, none len));
}

pub zeros : (n k : ℕ) → get_or {A = ℕ} (replicate n 0) k 0 ≡ 0
zeros zero k = no_bytes k
zeros (suc n) zero = refl
zeros (suc n) (suc k) = zeros n k

pub past_end : (xs : List ℕ) (k : ℕ) → length xs ≤ k → get_or xs k 0 ≡ 0
past_end [] k l = no_bytes k
past_end (x ∷ xs) zero l = absurd (omega (arith, l))
past_end (x ∷ xs) (suc k) l = past_end xs k (omega (arith, l))
