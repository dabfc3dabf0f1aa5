-- Words that fit their layouts
use Rattle.std.proofs.Common.{◌≡◌, ℕ, ◌<◌, Option, Some, None, MatchOption, List, [], ◌∷◌, length, nat_le, nat_lt, true, false, map, replicate, slice_get, slice_set, zero, suc, refl, sym, ap, subst, ◌∙◌, arith, ◌⊎◌, inl, inr}
use Rattle.std.proofs.lemmas.Bool.Decides.{nat_tests}
use Rattle.std.proofs.lemmas.Grind.{common_steps}
use Rattle.std.proofs.lemmas.List.{length-replicate, length-map}
use Rattle.std.proofs.lemmas.Option.{slice_get_cases, slice_get-map, slice_get_within}
use Rattle.std.specs.Option.{option_map}
use Rattle.az_base.specs.declared.word.Class.{Class}
use Rattle.az_base.specs.declared.word.Class.TheVariants as class
use Rattle.az_base.specs.declared.word.Word.{Word}
use Rattle.az_base.specs.declared.word.Word.TheVariants as word
use Rattle.block_layouts.specs.declared.layout.Layout.{Layout}
use Rattle.block_layouts.specs.declared.layout.Shape.TheVariants as shape
use Rattle.block_layouts.specs.Layouts.{len_of, class_at, first_word, first_words}
use Rattle.block_layouts.specs.Fitting.{Suits, FitsAt, Fits}

-- a place with a class is below the layout's number of words
pub class_within : (l : Layout) (at : ℕ) (c : Class) → class_at l at ≡ Some c → nat_le (len_of l) at ≡ false
class_within (shape.Scanned n) at c e = grind (arith, nat_tests, common_steps)
class_within (shape.Unscanned n) at c e = grind (arith, nat_tests, common_steps)
class_within (shape.Object cs) at c e = elim (slice_get_cases cs at).1 [
  | inl w ↦ let l = w.1 in grind (arith, nat_tests, common_steps)
  | inr w ↦ let e2 = w.1 in cc
]

-- so it is within the words
pub place_within : (l : Layout) (ws : List Word) (at : ℕ) (k : Class) → Fits l ws → class_at l at ≡ Some k → at < length ws
place_within l ws at k fits is = let below = class_within l at k is in let all = fits.all in grind (arith, nat_tests)

-- a number fits in a Plain word
pub number_fits : (l : Layout) (at n : ℕ) → class_at l at ≡ Some class.Plain → FitsAt l at (word.Number n)
number_fits l at n h = rw h tt

-- new words fit
repeated : (n : ℕ) (w v : Word) (i : ℕ) → slice_get (replicate n w) i ≡ Some v → v ≡ w
repeated zero w v i e = cc
repeated (suc n) w v zero e = cc
repeated (suc n) w v (suc i) e = repeated n w v i e

in_range : (n : ℕ) (w v : Word) (i : ℕ) → slice_get (replicate n w) i ≡ Some v → i < n
in_range n w v i e = subst (λ k. i < k) (length-replicate n w) (slice_get_within (replicate n w) i v e)

length_mapped : (cs : List Class) → length (map first_word cs) ≡ length cs
length_mapped cs = length-map cs first_word

suits_first : (c : Class) → Suits c (first_word c)
suits_first class.Strong = tt
suits_first class.Weak = tt
suits_first class.Plain = tt

below : (a b : ℕ) → a < b → nat_lt a b ≡ true
below a b h = grind (arith, nat_tests)

pub first_fits : (l : Layout) → Fits l (first_words l)
first_fits (shape.Scanned n) = record {
  all = length-replicate n word.Null;
  suit = λ i v e. rw (repeated n word.Null v i e, below i n (in_range n word.Null v i e)) tt;
}
first_fits (shape.Unscanned n) = record {
  all = length-replicate n (word.Number 0);
  suit = λ i v e. rw (repeated n (word.Number 0) v i e, below i n (in_range n (word.Number 0) v i e)) tt;
}
first_fits (shape.Object cs) = record {
  all = length_mapped cs;
  suit = λ i v e. go i v (slice_get cs i) refl (sym (slice_get-map first_word cs i) ∙ e);
}
  where
    the_same : {v w : Word} → Some w ≡ Some v → w ≡ v
    the_same e = cc

    go : (i : ℕ) (v : Word) (o : Option Class) → slice_get cs i ≡ o → option_map first_word o ≡ Some v → MatchOption (slice_get cs i) ⊥ (λ c. Suits c v)
    go i v None e f = cc
    go i v (Some c) e f = rw (e, sym (the_same f)) (suits_first c)

-- a word of a list in which one was set is that one, or was there
pub set_or_was : (ws : List Word) (i j : ℕ) (w v : Word) → slice_get (slice_set ws i w) j ≡ Some v → ((i ≡ j) × (w ≡ v)) ⊎ (slice_get ws j ≡ Some v)
set_or_was [] i j w v h = inr h
set_or_was (x ∷ ws) zero zero w v h = inl (refl, cc)
set_or_was (x ∷ ws) zero (suc j) w v h = inr h
set_or_was (x ∷ ws) (suc i) zero w v h = inr h
set_or_was (x ∷ ws) (suc i) (suc j) w v h = elim (set_or_was ws i j w v h) [ inl e ↦ inl (ap suc e.0, e.1) | inr e ↦ inr e ]

length_set : (ws : List Word) (i : ℕ) (w : Word) → length (slice_set ws i w) ≡ length ws
length_set [] i w = refl
length_set (x ∷ ws) zero w = refl
length_set (x ∷ ws) (suc i) w = ap suc (length_set ws i w)

-- words fit still after one that fits was set
pub set_fits : (l : Layout) (ws : List Word) (i : ℕ) (w : Word) → Fits l ws → FitsAt l i w → Fits l (slice_set ws i w)
set_fits l ws i w f fits = record {
  all = length_set ws i w ∙ f.all;
  suit = λ j v h. elim (set_or_was ws i j w v h) [ inl e ↦ rw (← e.0, ← e.1) fits | inr was ↦ f.suit j v was ];
}
