-- Lists of ids
use Rattle.az_base.proofs.Ids.{same_turned, same_self, same_is, among_more}
use Rattle.std.proofs.Common.{◌≡◌, ℕ, ◌+◌, ◌<◌, ◌≤◌, zero, suc, Bool, true, false, ◌||◌, List, [], ◌∷◌, ◌++◌, length, take, drop, Some, slice_get, refl, sym, ap, ◌∙◌, arith, ◌⊎◌, inl, inr}
use Rattle.az_base.specs.declared.block_id.BlockId.{BlockId}
use Rattle.az_base.specs.Ids.{among, same_id}
use Rattle.local_set.specs.Tables.{Distinct}

pub some_id : (a b : BlockId) → Some a ≡ Some b → a ≡ b
some_id a b h = cc

pub or_true : (b : Bool) → (b || true) ≡ true
or_true true = refl
or_true false = refl

-- what is in the first of two lists, and what is in the second
pub among_before : (xs ys : List BlockId) (q : BlockId) → among xs q ≡ true → among (xs ++ ys) q ≡ true
among_before [] ys q h = cc
among_before (x ∷ xs) ys q h = go (same_id q x) h (among_before xs ys q)
  where
    go : (b : Bool) → (b || among xs q) ≡ true → (among xs q ≡ true → among (xs ++ ys) q ≡ true) → (b || among (xs ++ ys) q) ≡ true
    go true h rest = refl
    go false h rest = rest h

pub among_behind : (xs ys : List BlockId) (q : BlockId) → among ys q ≡ true → among (xs ++ ys) q ≡ true
among_behind [] ys q h = h
among_behind (x ∷ xs) ys q h = ap (λ b. same_id q x || b) (among_behind xs ys q h) ∙ or_true (same_id q x)

pub among_of : (ids : List BlockId) (k : ℕ) (q : BlockId) → slice_get ids k ≡ Some q → among ids q ≡ true
among_of [] k q h = cc
among_of (x ∷ ids) zero q h = ap (λ b. b || among ids q) (ap (λ y. same_id y x) (sym (some_id x q h)) ∙ same_self x)
among_of (x ∷ ids) (suc k) q h = ap (λ b. same_id q x || b) (among_of ids k q h) ∙ or_true (same_id q x)

pub place_of : (ids : List BlockId) (q : BlockId) → among ids q ≡ true → (k : ℕ) × (slice_get ids k ≡ Some q)
place_of [] q h = cc
place_of (x ∷ ids) q h = go (same_id q x) refl h (place_of ids q)
  where
    go : (b : Bool) → same_id q x ≡ b → (b || among ids q) ≡ true → (among ids q ≡ true → (k : ℕ) × (slice_get ids k ≡ Some q)) → (k : ℕ) × (slice_get (x ∷ ids) k ≡ Some q)
    go true e h rest = (zero, ap Some (sym (same_is q x e)))
    go false e h rest = let found = rest h in (suc found.0, found.1)

pub get_kept : (xs ys : List BlockId) (k : ℕ) (q : BlockId) → slice_get xs k ≡ Some q → slice_get (xs ++ ys) k ≡ Some q
get_kept [] ys k q h = cc
get_kept (x ∷ xs) ys zero q h = h
get_kept (x ∷ xs) ys (suc k) q h = get_kept xs ys k q h

pub distinct_more : (ids : List BlockId) (id : BlockId) → Distinct ids → among ids id ≡ false → Distinct (ids ++ id ∷ [])
distinct_more [] id d h = (refl, tt)
distinct_more (x ∷ ids) id d h = go (same_id id x) refl h (distinct_more ids id d.1)
  where
    go : (b : Bool) → same_id id x ≡ b → (b || among ids id) ≡ false → (among ids id ≡ false → Distinct (ids ++ id ∷ [])) → Distinct ((x ∷ ids) ++ id ∷ [])
    go true e h rest = cc
    go false e h rest = (among_more ids id x ∙ ap (λ b. b || same_id x id) d.0 ∙ same_turned x id ∙ e, rest h)

pub last_or_before : (n i : ℕ) → i < n + 1 → (i < n) ⊎ (i ≡ n)
last_or_before zero zero l = inr refl
last_or_before zero (suc i) l = absurd (omega (arith, l))
last_or_before (suc n) zero l = inl (omega arith)
last_or_before (suc n) (suc i) l = elim (last_or_before n i (omega (arith, l))) [ inl a ↦ inl (omega (arith, a)) | inr b ↦ inr (ap suc b) ]

pub within : {X : Type 0} (xs : List X) (i : ℕ) (x : X) → slice_get xs i ≡ Some x → i < length xs
within [] i x h = cc
within (y ∷ xs) zero x h = omega arith
within (y ∷ xs) (suc i) x h = let l : i < length xs = within xs i x h in omega arith

-- a place before the end has an item
pub has : {X : Type 0} (xs : List X) (k : ℕ) → k < length xs → (x : X) × (slice_get xs k ≡ Some x)
has [] k h = absurd (omega (arith, h))
has (y ∷ xs) zero h = (y, refl)
has (y ∷ xs) (suc k) h = has xs k (omega (arith, h))

plus : (i : ℕ) → suc (i + 1) ≡ suc i + 1
plus i = omega arith

some_same : {X : Type 0} (a b : X) → Some a ≡ Some b → a ≡ b
some_same a b h = cc

-- the next item of what is left
pub next_left : {X : Type 0} (xs : List X) (i : ℕ) (x : X) → slice_get xs i ≡ Some x → drop i xs ≡ x ∷ drop (i + 1) xs
next_left [] i x h = cc
next_left (y ∷ xs) zero x h = ap (λ z. z ∷ xs) (some_same y x h)
next_left (y ∷ xs) (suc i) x h = next_left xs i x h ∙ ap (λ n. x ∷ drop n (y ∷ xs)) (plus i)

pub none_left : {X : Type 0} (xs : List X) (i : ℕ) → length xs ≤ i → drop i xs ≡ []
none_left [] zero h = refl
none_left [] (suc i) h = refl
none_left (x ∷ xs) zero h = absurd (omega (arith, h))
none_left (x ∷ xs) (suc i) h = none_left xs i (omega (arith, h))

pub next_taken : {X : Type 0} (xs : List X) (i : ℕ) (x : X) → slice_get xs i ≡ Some x → take i xs ++ x ∷ [] ≡ take (i + 1) xs
next_taken [] i x h = cc
next_taken (y ∷ xs) zero x h = ap (λ z. z ∷ []) (some_same x y (sym h))
next_taken (y ∷ xs) (suc i) x h = ap (λ ys. y ∷ ys) (next_taken xs i x h) ∙ ap (λ n. take n (y ∷ xs)) (plus i)

pub all_taken : {X : Type 0} (xs : List X) (i : ℕ) → length xs ≤ i → take i xs ≡ xs
all_taken [] zero h = refl
all_taken [] (suc i) h = refl
all_taken (x ∷ xs) zero h = absurd (omega (arith, h))
all_taken (x ∷ xs) (suc i) h = ap (λ ys. x ∷ ys) (all_taken xs i (omega (arith, h)))

pub among_both : (xs ys : List BlockId) (q : BlockId) → among (xs ++ ys) q ≡ (among xs q || among ys q)
among_both [] ys q = refl
among_both (x ∷ xs) ys q = ap (λ b. same_id q x || b) (among_both xs ys q) ∙ grouped (same_id q x) (among xs q) (among ys q)
  where
    grouped : (a b c : Bool) → (a || (b || c)) ≡ ((a || b) || c)
    grouped true b c = refl
    grouped false b c = refl

or_false : (a b : Bool) → (a || b) ≡ false → (a ≡ false) × (b ≡ false)
or_false true b h = cc
or_false false b h = (refl, h)

-- what is in neither of two lists
pub among_neither : (xs ys : List BlockId) (q : BlockId) → among (xs ++ ys) q ≡ false → (among xs q ≡ false) × (among ys q ≡ false)
among_neither xs ys q h = or_false (among xs q) (among ys q) (sym (among_both xs ys q) ∙ h)

-- in a list without repeats, an item isn't among those before it
pub distinct_before : (ids : List BlockId) (i : ℕ) (id : BlockId) → Distinct ids → slice_get ids i ≡ Some id → among (take i ids) id ≡ false
distinct_before [] i id d h = cc
distinct_before (x ∷ ids) zero id d h = refl
distinct_before (x ∷ ids) (suc i) id d h = go (same_id id x) refl (distinct_before ids i id d.1 h)
  where
    go : (b : Bool) → same_id id x ≡ b → among (take i ids) id ≡ false → (b || among (take i ids) id) ≡ false
    go true e rest = let no : false ≡ true = sym d.0 ∙ ap (among ids) (sym (same_is id x e)) ∙ among_of ids i id h in cc (no)
    go false e rest = rest
