-- Lists of places, some of which hold nothing
use Rattle.std.proofs.Common.{◌≡◌, ℕ, zero, suc, ◌+◌, ◌-◌, ◌<◌, ◌≤◌, ◌++◌, List, [], ◌∷◌, Option, Some, None, length, drop, map, slice_get, option_and_then, refl, sym, ap, ◌∙◌, arith, ◌⊎◌, inl, inr}
use Rattle.az_base.specs.declared.block_id.BlockId.{BlockId}
use Rattle.block_table.specs.Places.{somes}

pub somes_append : (xs ys : List (Option BlockId)) → somes (xs ++ ys) ≡ somes xs ++ somes ys
somes_append [] ys = refl
somes_append (None ∷ xs) ys = somes_append xs ys
somes_append (Some b ∷ xs) ys = ap (λ l. b ∷ l) (somes_append xs ys)

pub at_none : (xs : List (Option BlockId)) (n : ℕ) → slice_get xs n ≡ Some None → somes (drop n xs) ≡ somes (drop (suc n) xs)
at_none [] n e = cc
at_none (None ∷ xs) zero e = refl
at_none (Some b ∷ xs) zero e = cc
at_none (x ∷ xs) (suc n) e = at_none xs n e

pub at_some : (xs : List (Option BlockId)) (n : ℕ) (b : BlockId) → slice_get xs n ≡ Some (Some b) → somes (drop n xs) ≡ b ∷ somes (drop (suc n) xs)
at_some [] n b e = cc
at_some (None ∷ xs) zero b e = cc
at_some (Some c ∷ xs) zero b e = let same : c ≡ b = cc in ap (λ x. x ∷ somes xs) same
at_some (x ∷ xs) (suc n) b e = at_some xs n b e

pub past : {X : Type 0} (xs : List X) (n : ℕ) → length xs ≤ n → drop n xs ≡ []
past [] zero h = refl
past [] (suc n) h = refl
past (x ∷ xs) zero h = absurd (omega (arith, h))
past (x ∷ xs) (suc n) h = past xs n (omega (arith, h))

pub drop_joined : {X : Type 0} (n : ℕ) (xs ys : List X) → drop n (xs ++ ys) ≡ drop n xs ++ drop (n - length xs) ys
drop_joined zero [] ys = refl
drop_joined (suc n) [] ys = let same : suc n - 0 ≡ suc n = omega arith in sym (ap (λ k. drop k ys) same)
drop_joined zero (x ∷ xs) ys = let same : 0 - length (x ∷ xs) ≡ 0 = omega arith in sym (ap (λ k. x ∷ xs ++ drop k ys) same)
drop_joined (suc n) (x ∷ xs) ys = let same : suc n - suc (length xs) ≡ n - length xs = omega arith in drop_joined n xs ys ∙ sym (ap (λ k. drop n xs ++ drop k ys) same)

-- the second list begins where the first ends
pub in_second : (n k : ℕ) (xs ys : List (Option BlockId)) → length xs ≤ n → n ≡ k + length xs → somes (drop n (xs ++ ys)) ≡ somes (drop k ys)
in_second n k xs ys h e = let same : n - length xs ≡ k = omega (arith, e) in ap somes (drop_joined n xs ys ∙ ap (λ l. l ++ drop (n - length xs) ys) (past xs n h) ∙ ap (λ k. drop k ys) same)

within : {X : Type 0} (n : ℕ) (zs : List X) → (n ≤ length zs) ⊎ (length zs ≤ n)
within n [] = inr (omega arith)
within zero (z ∷ zs) = inl (omega arith)
within (suc n) (z ∷ zs) = elim (within n zs) [ inl l ↦ inl (omega (arith, l)) | inr l ↦ inr (omega (arith, l)) ]

-- a cursor over two lists
pub next_first : (place : ℕ) (b : BlockId) (next : ℕ) (xs ys : List (Option BlockId)) → somes (drop place xs) ≡ b ∷ somes (drop next xs) → next ≤ length xs
    → somes (drop place (xs ++ ys)) ≡ b ∷ somes (drop next (xs ++ ys))
next_first place b next xs ys e h =
    let low : next - length xs ≡ 0 = omega (arith, h) in
    ap somes (drop_joined place xs ys) ∙ somes_append (drop place xs) (drop (place - length xs) ys) ∙ rw (e) (ap (λ l. b ∷ l) (start ∙ sym (ap somes (drop_joined next xs ys ∙ ap (λ k. drop next xs ++ drop k ys) low) ∙ somes_append (drop next xs) ys)))
  where
    nothing : length xs ≤ place → ⊥
    nothing p = let none : [] ≡ b ∷ somes (drop next xs) = sym (ap somes (past xs place p)) ∙ e in cc

    start : somes (drop next xs) ++ somes (drop (place - length xs) ys) ≡ somes (drop next xs) ++ somes ys
    start = elim (within place xs) [ inl l ↦ (let low : place - length xs ≡ 0 = omega (arith, l) in ap (λ k. somes (drop next xs) ++ somes (drop k ys)) low) | inr p ↦ absurd (nothing p) ]

pub next_second : (place : ℕ) (xs ys : List (Option BlockId)) → somes (drop place xs) ≡ [] → somes (drop place (xs ++ ys)) ≡ somes (drop (place - length xs) ys)
next_second place xs ys e = ap somes (drop_joined place xs ys) ∙ somes_append (drop place xs) (drop (place - length xs) ys) ∙ rw e refl

one_on : (n : ℕ) → suc n ≡ n + 1
one_on n = omega arith

-- at a place of a list that a test makes
mapped_none_in : (f : BlockId → Option BlockId) (xs : List BlockId) (n : ℕ) → n < length xs → option_and_then f (slice_get xs n) ≡ None → somes (drop n (map f xs)) ≡ somes (drop (suc n) (map f xs))
mapped_none_in f [] n h e = absurd (omega (arith, h))
mapped_none_in f (x ∷ xs) zero h e = rw e refl
mapped_none_in f (x ∷ xs) (suc n) h e = mapped_none_in f xs n (omega (arith, h)) e

mapped_some_in : (f : BlockId → Option BlockId) (xs : List BlockId) (n : ℕ) (b : BlockId) → option_and_then f (slice_get xs n) ≡ Some b → somes (drop n (map f xs)) ≡ b ∷ somes (drop (suc n) (map f xs))
mapped_some_in f [] n b e = cc
mapped_some_in f (x ∷ xs) zero b e = rw e refl
mapped_some_in f (x ∷ xs) (suc n) b e = mapped_some_in f xs n b e

pub mapped_none : (f : BlockId → Option BlockId) (xs : List BlockId) (n : ℕ) → n < length xs → option_and_then f (slice_get xs n) ≡ None → somes (drop n (map f xs)) ≡ somes (drop (n + 1) (map f xs))
mapped_none f xs n h e = mapped_none_in f xs n h e ∙ ap (λ k. somes (drop k (map f xs))) (one_on n)

pub mapped_some : (f : BlockId → Option BlockId) (xs : List BlockId) (n : ℕ) (b : BlockId) → option_and_then f (slice_get xs n) ≡ Some b → somes (drop n (map f xs)) ≡ b ∷ somes (drop (n + 1) (map f xs))
mapped_some f xs n b e = mapped_some_in f xs n b e ∙ ap (λ k. b ∷ somes (drop k (map f xs))) (one_on n)

pub mapped_past : {X : Type 0} (f : X → Option BlockId) (xs : List X) (n : ℕ) → length xs ≤ n → somes (drop n (map f xs)) ≡ []
mapped_past f [] zero h = refl
mapped_past f [] (suc n) h = refl
mapped_past f (x ∷ xs) zero h = absurd (omega (arith, h))
mapped_past f (x ∷ xs) (suc n) h = mapped_past f xs n (omega (arith, h))

pub length_mapped : {X Y : Type 0} (f : X → Y) (xs : List X) → length (map f xs) ≡ length xs
length_mapped f [] = refl
length_mapped f (x ∷ xs) = ap suc (length_mapped f xs)

pub shorter : {X : Type 0} (xs ys : List X) (n : ℕ) → n ≤ length xs → n ≤ length (xs ++ ys)
shorter [] ys n h = omega (arith, h)
shorter (x ∷ xs) ys zero h = omega arith
shorter (x ∷ xs) ys (suc n) h = let r = shorter xs ys n (omega (arith, h)) in omega (arith, r)

pub both_lengths : {X : Type 0} (xs ys : List X) → length (xs ++ ys) ≡ length xs + length ys
both_lengths [] ys = omega arith
both_lengths (x ∷ xs) ys = let r = both_lengths xs ys in omega (arith, r)

-- what a cursor finds in the first list, or else in the second, it finds in both together
pub first_of_two : (xs ys : List (Option BlockId)) (place : ℕ) (x : BlockId × ℕ) → (somes (drop place xs) ≡ x.0 ∷ somes (drop x.1 xs)) × (x.1 ≤ length xs)
    → (somes (drop place (xs ++ ys)) ≡ x.0 ∷ somes (drop x.1 (xs ++ ys))) × (x.1 ≤ length (xs ++ ys))
first_of_two xs ys place x h = (next_first place x.0 x.1 xs ys h.0 h.1, shorter xs ys x.1 h.1)

pub second_of_two : (xs ys : List (Option BlockId)) (place k : ℕ) (b : BlockId) (next m : ℕ) → somes (drop place xs) ≡ [] → k ≡ place - length xs → m ≡ next + length xs
    → (somes (drop k ys) ≡ b ∷ somes (drop next ys)) × (next ≤ length ys) → (somes (drop place (xs ++ ys)) ≡ b ∷ somes (drop m (xs ++ ys))) × (m ≤ length (xs ++ ys))
second_of_two xs ys place k b next m none at is h = (
  next_second place xs ys none ∙ sym (ap (λ j. somes (drop j ys)) at) ∙ h.0 ∙ ap (λ l. b ∷ l) (sym (in_second m next xs ys (omega (arith, is)) is)),
  (let both = both_lengths xs ys in omega (arith, both, is, h.1)),
)

pub none_of_two : (xs ys : List (Option BlockId)) (place k : ℕ) → somes (drop place xs) ≡ [] → k ≡ place - length xs → somes (drop k ys) ≡ [] → somes (drop place (xs ++ ys)) ≡ []
none_of_two xs ys place k none at h = next_second place xs ys none ∙ sym (ap (λ j. somes (drop j ys)) at) ∙ h

-- of a list whose places all hold something
mapped_at_in : {X : Type 0} (f : X → Option BlockId) (xs : List X) (n : ℕ) (x : X) (b : BlockId) → slice_get xs n ≡ Some x → f x ≡ Some b → somes (drop n (map f xs)) ≡ b ∷ somes (drop (suc n) (map f xs))
mapped_at_in f [] n x b e h = cc
mapped_at_in f (y ∷ xs) zero x b e h = let same : y ≡ x = cc in rw (same, h) refl
mapped_at_in f (y ∷ xs) (suc n) x b e h = mapped_at_in f xs n x b e h

pub mapped_at : {X : Type 0} (f : X → Option BlockId) (xs : List X) (n : ℕ) (x : X) (b : BlockId) → slice_get xs n ≡ Some x → f x ≡ Some b → somes (drop n (map f xs)) ≡ b ∷ somes (drop (n + 1) (map f xs))
mapped_at f xs n x b e h = mapped_at_in f xs n x b e h ∙ ap (λ k. b ∷ somes (drop k (map f xs))) (one_on n)

pub within_list : {X : Type 0} (xs : List X) (n : ℕ) (x : X) → slice_get xs n ≡ Some x → n + 1 ≤ length xs
within_list [] n x e = cc
within_list (y ∷ xs) zero x e = omega arith
within_list (y ∷ xs) (suc n) x e = let r = within_list xs n x e in omega (arith, r)

pub none_past : {X : Type 0} (xs : List X) (n : ℕ) → slice_get xs n ≡ None → length xs ≤ n
none_past [] n e = omega arith
none_past (y ∷ xs) zero e = cc
none_past (y ∷ xs) (suc n) e = let r = none_past xs n e in omega (arith, r)

-- nothing stands in an empty list
pub none_in_nothing : (n : ℕ) → somes (drop n []) ≡ []
none_in_nothing zero = refl
none_in_nothing (suc n) = refl
