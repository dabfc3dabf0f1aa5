-- Which words refer to blocks
use Rattle.std.proofs.Common.{◌≡◌, ◌≢◌, ℕ, zero, suc, ◌+◌, ◌-◌, ◌<◌, ◌≤◌, List, [], ◌∷◌, Option, Some, None, MatchOption, length, drop, map, slice_get, option_and_then, refl, sym, ap, ◌∙◌, subst, arith, ◌⊎◌, inl, inr}
use Rattle.std.proofs.lemmas.Option.{slice_get-map}
use Rattle.std.specs.Option.{option_map}
use Rattle.az_base.specs.declared.block_id.BlockId.{BlockId}
use Rattle.az_base.specs.declared.word.Class.{Class}
use Rattle.az_base.specs.declared.word.Class.TheVariants as class
use Rattle.az_base.specs.declared.word.Word.{Word}
use Rattle.az_base.specs.declared.word.Word.TheVariants as word
use Rattle.block_layouts.specs.declared.layout.Layout.{Layout}
use Rattle.block_layouts.specs.Layouts.{len_of, class_at, NoStrongWithin}
use Rattle.block_layouts.specs.Fitting.{Fits, FitsAt, Suits}
use Rattle.block_table.specs.Places.{somes, in_word}
use Rattle.block_table.proofs.Somes.{at_none, at_some, past, length_mapped}

-- a word that isn't Strong refers to none
no_reference : (l : Layout) (at : ℕ) (w : Word) → FitsAt l at w → class_at l at ≢ Some class.Strong → in_word w ≡ None
no_reference l at w fits weak = by (class_at l at) refl fits
  where
    suits : (c : Class) (w : Word) → c ≢ class.Strong → Suits c w → in_word w ≡ None
    suits class.Strong w n s = absurd (n refl)
    suits class.Weak word.Null n s = refl
    suits class.Weak (word.Number k) n s = absurd s
    suits class.Weak (word.Block b) n s = absurd s
    suits class.Plain word.Null n s = absurd s
    suits class.Plain (word.Number k) n s = refl
    suits class.Plain (word.Block b) n s = absurd s

    by : (o : Option Class) → class_at l at ≡ o → MatchOption o ⊥ (λ c. Suits c w) → in_word w ≡ None
    by None e f = absurd f
    by (Some c) e f = suits c w (λ s. weak (e ∙ ap (λ c. Some c) s)) f

step : (ws : List Word) (l : Layout) (n : ℕ) → Fits l ws → class_at l n ≢ Some class.Strong → somes (drop n (map in_word ws)) ≡ somes (drop (suc n) (map in_word ws))
step ws l n fits weak = by (slice_get ws n) refl
  where
    by : (o : Option Word) → slice_get ws n ≡ o → somes (drop n (map in_word ws)) ≡ somes (drop (suc n) (map in_word ws))
    by None e = ap somes (past (map in_word ws) n (beyond (map in_word ws) n (slice_get-map in_word ws n ∙ ap (option_map in_word) e)) ∙ sym (past (map in_word ws) (suc n) (let b = beyond (map in_word ws) n (slice_get-map in_word ws n ∙ ap (option_map in_word) e) in omega (arith, b))))
      where
        beyond : (xs : List (Option BlockId)) (n : ℕ) → slice_get xs n ≡ None → length xs ≤ n
        beyond [] n e = omega arith
        beyond (x ∷ xs) zero e = cc
        beyond (x ∷ xs) (suc n) e = let r = beyond xs n e in omega (arith, r)
    by (Some w) e = at_none (map in_word ws) n (slice_get-map in_word ws n ∙ ap (option_map in_word) e ∙ ap (λ o. Some o) (no_reference l n w (fits.suit n w e) weak))

-- where no Strong word stands, nothing is referred to
skipped : (ws : List Word) (l : Layout) (i d : ℕ) → Fits l ws → NoStrongWithin l i (d + i) → somes (drop i (map in_word ws)) ≡ somes (drop (d + i) (map in_word ws))
skipped ws l i zero fits none = let z : zero + i ≡ i = omega arith in ap (λ n. somes (drop n (map in_word ws))) (sym z)
skipped ws l i (suc d) fits none =
    let s : suc d + i ≡ suc (d + i) = omega arith in
    skipped ws l i d fits (λ k a b. none k a (omega (arith, b))) ∙ step ws l (d + i) fits (none (d + i) (omega arith) (omega arith)) ∙ ap (λ n. somes (drop n (map in_word ws))) (sym s)

pub to_strong : (ws : List Word) (l : Layout) (i j : ℕ) → Fits l ws → i ≤ j → NoStrongWithin l i j → somes (drop i (map in_word ws)) ≡ somes (drop j (map in_word ws))
to_strong ws l i j fits le none =
    let s : (j - i) + i ≡ j = omega (arith, le) in
    skipped ws l i (j - i) fits (subst (NoStrongWithin l i) (sym s) none) ∙ ap (λ n. somes (drop n (map in_word ws))) s

pub none_left : (ws : List Word) (l : Layout) (i : ℕ) → Fits l ws → NoStrongWithin l i (len_of l) → somes (drop i (map in_word ws)) ≡ []
none_left ws l i fits none = elim (order i (len_of l)) [
  | inl le ↦ (let e = to_strong ws l i (len_of l) fits le none in let a = fits.all in let m = length_mapped in_word ws in e ∙ ap somes (past (map in_word ws) (len_of l) (omega (arith, a, m))))
  | inr ge ↦ (let a = fits.all in let m = length_mapped in_word ws in ap somes (past (map in_word ws) i (omega (arith, a, m, ge))))
]
  where
    order : (a b : ℕ) → (a ≤ b) ⊎ (b ≤ a)
    order zero b = inl (omega arith)
    order (suc a) zero = inr (omega arith)
    order (suc a) (suc b) = elim (order a b) [ inl h ↦ inl (omega (arith, h)) | inr h ↦ inr (omega (arith, h)) ]

-- one word on
pub word_refers : (ws : List Word) (n : ℕ) (b : BlockId) → Some b ≡ option_and_then in_word (slice_get ws n) → somes (drop n (map in_word ws)) ≡ b ∷ somes (drop (n + 1) (map in_word ws))
word_refers ws n b h = by (slice_get ws n) refl (h)
  where
    by : (o : Option Word) → slice_get ws n ≡ o → Some b ≡ option_and_then in_word o → somes (drop n (map in_word ws)) ≡ b ∷ somes (drop (n + 1) (map in_word ws))
    by None e f = cc
    by (Some w) e f = let one : suc n ≡ n + 1 = omega arith in at_some (map in_word ws) n b (slice_get-map in_word ws n ∙ ap (option_map in_word) e ∙ ap (λ o. Some o) (sym f)) ∙ ap (λ k. b ∷ somes (drop k (map in_word ws))) one

pub word_refers_to_none : (ws : List Word) (n : ℕ) → n < length ws → None ≡ option_and_then in_word (slice_get ws n) → somes (drop n (map in_word ws)) ≡ somes (drop (n + 1) (map in_word ws))
word_refers_to_none ws n l h = by (slice_get ws n) refl h
  where
    within : (xs : List Word) (n : ℕ) → n < length xs → slice_get xs n ≡ None → ⊥
    within [] n l e = omega (arith, l)
    within (x ∷ xs) zero l e = cc
    within (x ∷ xs) (suc n) l e = within xs n (omega (arith, l)) e

    by : (o : Option Word) → slice_get ws n ≡ o → None ≡ option_and_then in_word o → somes (drop n (map in_word ws)) ≡ somes (drop (n + 1) (map in_word ws))
    by None e f = absurd (within ws n l e)
    by (Some w) e f = let one : suc n ≡ n + 1 = omega arith in at_none (map in_word ws) n (slice_get-map in_word ws n ∙ ap (option_map in_word) e ∙ ap (λ o. Some o) (sym f)) ∙ ap (λ k. somes (drop k (map in_word ws))) one
