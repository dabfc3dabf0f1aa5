-- Sums of quanta
use Rattle.std.proofs.Common.{◌≡◌, inl, inr, ℕ, zero, suc, ◌+◌, ◌-◌, ◌/◌, ◌<◌, ◌≤◌, ◌==◌, nat_le, Bool, true, false, if◌then◌else◌, List, [], ◌∷◌, ◌++◌, Option, Some, None, refl, sym, ap, ◌∙◌, subst, arith, length, get_or, set, slice_get, drop}
use Rattle.std.proofs.lemmas.Bool.{leb-true}
use Rattle.std.specs.Option.{option_map_or}
use Rattle.block_layouts.specs.declared.layout.Layout.{Layout}
use Rattle.block_layouts.specs.Layouts.{len_of, quanta}
use Rattle.quantum_space.specs.Regions.{quanta_in}
use Rattle.quantum_space.proofs.Runs.{below_or}
use Rattle.quantum_space.specs.declared.spot.Kind.{Kind}
use Rattle.quantum_space.specs.declared.spot.Kind.TheVariants as kind
use Rattle.block_space.specs.Spaces.{AreLengths, block_quanta, kind_length, kind_of, kind_quanta, list_quanta, width_of, other}

abbrev pub layout_quanta : Option Layout → ℕ
layout_quanta o = option_map_or (λ l. quanta (len_of l)) o 0

none_at : (k : ℕ) → get_or {A = Option Layout} [] k None ≡ None
none_at zero = refl
none_at (suc k) = refl

pub set_quanta : (xs : List (Option Layout)) (at : ℕ) (o : Option Layout) → at < length xs → block_quanta (set xs at o) + layout_quanta (get_or xs at None) ≡ block_quanta xs + layout_quanta o
set_quanta [] at o l = absurd (omega (arith, l))
set_quanta (x ∷ xs) zero o l = omega arith
set_quanta (x ∷ xs) (suc at) o l = let e = set_quanta xs at o (omega (arith, l)) in omega (arith, e)

pub stored_within : (xs : List (Option Layout)) (at : ℕ) (l : Layout) → get_or xs at None ≡ Some l → at < length xs
stored_within [] at l e = (let f = none_at at in cc)
stored_within (x ∷ xs) zero l e = omega arith
stored_within (x ∷ xs) (suc at) l e = omega (arith, stored_within xs at l e)

pub no_quanta : (ys : List (Option Layout)) → ((k : ℕ) → get_or ys k None ≡ None) → block_quanta ys ≡ 0
no_quanta [] h = refl
no_quanta (y ∷ ys) h = let e : layout_quanta y ≡ 0 = ap layout_quanta (h zero) in let r = no_quanta ys (λ k. h (suc k)) in omega (arith, e, r)

pub same_quanta : (xs ys : List (Option Layout)) → ((k : ℕ) → get_or ys k None ≡ get_or xs k None) → block_quanta ys ≡ block_quanta xs
same_quanta [] ys h = no_quanta ys (λ k. h k ∙ none_at k)
same_quanta (x ∷ xs) [] h = sym (no_quanta (x ∷ xs) (λ k. sym (h k) ∙ none_at k))
same_quanta (x ∷ xs) (y ∷ ys) h = let e : layout_quanta y ≡ layout_quanta x = ap layout_quanta (h zero) in let r = same_quanta xs ys (λ k. h (suc k)) in omega (arith, e, r)

-- the first of the lengths
pub first_list : (ns : List ℕ) (n : ℕ) → slice_get ns 0 ≡ Some n → list_quanta ns ≡ quanta n + list_quanta (drop 1 ns)
first_list [] n e = cc
first_list (m ∷ ns) n e = (let s : m ≡ n = cc in ap (λ x. quanta x + list_quanta ns) s)

pub first_kind : (k : Kind) (ns : List ℕ) (n : ℕ) → slice_get ns 0 ≡ Some n → kind_quanta k ns ≡ kind_length k n + kind_quanta k (drop 1 ns)
first_kind k [] n e = cc
first_kind k (m ∷ ns) n e = (let s : m ≡ n = cc in ap (λ x. kind_length k x + kind_quanta k ns) s)

pub first_some : (ns : List ℕ) (n : ℕ) → slice_get ns 0 ≡ Some n → 0 < length ns
first_some [] n e = cc
first_some (m ∷ ns) n e = omega arith

pub more_lengths : (ns : List ℕ) → AreLengths ns → AreLengths (drop 1 ns)
more_lengths [] h = h
more_lengths (m ∷ ns) h = λ k. h (suc k)

pub list_append : (xs ys : List ℕ) → list_quanta (xs ++ ys) ≡ list_quanta xs + list_quanta ys
list_append [] ys = omega arith
list_append (x ∷ xs) ys = let e = list_append xs ys in omega (arith, e)

pub kind_append : (k : Kind) (xs ys : List ℕ) → kind_quanta k (xs ++ ys) ≡ kind_quanta k xs + kind_quanta k ys
kind_append k [] ys = omega arith
kind_append k (x ∷ xs) ys = let e = kind_append k xs ys in omega (arith, e)

pub lengths_append : (xs ys : List ℕ) → AreLengths xs → AreLengths ys → AreLengths (xs ++ ys)
lengths_append [] ys f g = g
lengths_append (x ∷ xs) ys f g = go (lengths_append xs ys (λ j. f (suc j)) g)
  where
    go : AreLengths (xs ++ ys) → AreLengths (x ∷ (xs ++ ys))
    go h zero = f zero
    go h (suc k) = h k

-- the quanta of a block in the subzones of its kind, and in those of the other
is_small : (n : ℕ) → nat_le n 64 ≡ true → kind_of n ≡ kind.Small
is_small n e = ap (λ b. if b then kind.Small else kind.Medium) e

is_medium : (n : ℕ) → nat_le n 64 ≡ false → kind_of n ≡ kind.Medium
is_medium n e = ap (λ b. if b then kind.Small else kind.Medium) e

pub own_length : (n : ℕ) → kind_length (kind_of n) n ≡ quanta_in (width_of (kind_of n)) n
own_length n = go (nat_le n 64) refl
  where
    go : (b : Bool) → nat_le n 64 ≡ b → kind_length (kind_of n) n ≡ quanta_in (width_of (kind_of n)) n
    go true e = ap (λ j. kind_length j n) (is_small n e) ∙ ap (λ b. if b then quanta_in 2 n else 0) e ∙ ap (λ j. quanta_in (width_of j) n) (sym (is_small n e))
    go false e = ap (λ j. kind_length j n) (is_medium n e) ∙ ap (λ b. if b then 0 else quanta_in 128 n) e ∙ ap (λ j. quanta_in (width_of j) n) (sym (is_medium n e))

pub other_length : (n : ℕ) → kind_length (other (kind_of n)) n ≡ 0
other_length n = go (nat_le n 64) refl
  where
    go : (b : Bool) → nat_le n 64 ≡ b → kind_length (other (kind_of n)) n ≡ 0
    go true e = ap (λ j. kind_length (other j) n) (is_small n e) ∙ ap (λ b. if b then 0 else quanta_in 128 n) e
    go false e = ap (λ j. kind_length (other j) n) (is_medium n e) ∙ ap (λ b. if b then quanta_in 2 n else 0) e

pub stored_quanta : (xs : List (Option Layout)) (at : ℕ) (l : Layout) → get_or xs at None ≡ Some l → quanta (len_of l) ≤ block_quanta xs
stored_quanta [] at l e = (let f = none_at at in cc)
stored_quanta (x ∷ xs) zero l e = (let z : layout_quanta x ≡ quanta (len_of l) = ap layout_quanta e in omega (arith, z))
stored_quanta (x ∷ xs) (suc at) l e = omega (arith, stored_quanta xs at l e)

-- no more than 32 quanta
within : (w n m : ℕ) → ((n - 1) / w + 1 ≤ m) → 1 ≤ m → quanta_in w n ≤ m
within w n m g h = go (n == 0)
  where
    go : (z : Bool) → (if z then 1 else (n - 1) / w + 1) ≤ m
    go true = h
    go false = g

pub few_quanta : (k : Kind) (n : ℕ) → n ≤ 4096 → kind_of n ≡ k → quanta_in (width_of k) n ≤ 32
few_quanta k n l e = subst (λ j. quanta_in (width_of j) n ≤ 32) e (go (nat_le n 64) refl)
  where
    go : (b : Bool) → nat_le n 64 ≡ b → quanta_in (width_of (kind_of n)) n ≤ 32
    go true t = subst (λ j. quanta_in (width_of j) n ≤ 32) (sym (is_small n t)) (let m : n ≤ 64 = leb-true n 64 t in within 2 n 32 (omega (arith, m)) (omega arith))
    go false t = subst (λ j. quanta_in (width_of j) n ≤ 32) (sym (is_medium n t)) (within 128 n 32 (omega (arith, l)) (omega arith))

pub past_end : (ns : List ℕ) (k : ℕ) → length ns ≤ k → get_or ns k 0 ≤ 4096
past_end [] zero l = omega arith
past_end [] (suc k) l = omega arith
past_end (n ∷ ns) zero l = absurd (omega (arith, l))
past_end (n ∷ ns) (suc k) l = past_end ns k (omega (arith, l))

pub all_lengths : (ns : List ℕ) (i : ℕ) → length ns ≤ i → ((k : ℕ) → k < i → get_or ns k 0 ≤ 4096) → AreLengths ns
all_lengths ns i e h k = elim (below_or k i) [ inl l ↦ h k l | inr l ↦ past_end ns k (omega (arith, e, l)) ]
