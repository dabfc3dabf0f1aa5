-- Words of plain characters, with single spaces between them, are cut into the same words
use Rattle.std.proofs.Common.{◌≡◌, ℕ, ◌≤◌, Bool, true, false, leb, eqb, ◌&&◌, nat_le, List, [], ◌∷◌, ◌++◌, refl, ap, ◌∙◌, arith}
use Rattle.std.specs.List.{list_all}
use Rattle.std.proofs.lemmas.Bool.{cond-true, cond-false, leb-true, ne_eqb, and_parts}
use Rattle.std.proofs.lemmas.List.Folds.{list_all-append}
use Rattle.az_words.specs.Lines.{is_feed, onto_first}
use Rattle.az_words.specs.Words.{is_blank, ends_word, words_of}
use Rattle.call_words.specs.Spacing.{spread, spaced, is_visible, IsPlain, ArePlain}

-- a character that can be seen, or a space
abbrev pub is_shown : ℕ → Bool
is_shown c = nat_le 32 c && nat_le c 126

pub both : (a b : Bool) → a ≡ true → b ≡ true → (a && b) ≡ true
both a b e f = rw (e, f) refl

pub visible_range : (c : ℕ) → is_visible c ≡ true → (33 ≤ c) × (c ≤ 126)
visible_range c h = let p = and_parts (leb 33 c) (leb c 126) h in (leb-true 33 c p.0, leb-true c 126 p.1)

pub shown_range : (c : ℕ) → is_shown c ≡ true → (32 ≤ c) × (c ≤ 126)
shown_range c h = let p = and_parts (leb 32 c) (leb c 126) h in (leb-true 32 c p.0, leb-true c 126 p.1)

not_blank : (c : ℕ) → is_visible c ≡ true → is_blank c ≡ false
not_blank c h =
    let p = visible_range c h in
    let a : eqb c 32 ≡ false = ne_eqb c 32 (λ e. omega (arith, p.0)) in
    let b : eqb c 9 ≡ false = ne_eqb c 9 (λ e. omega (arith, p.0)) in
    rw (a, b) refl

pub not_feed : (c : ℕ) → is_shown c ≡ true → is_feed c ≡ false
not_feed c h = let p = shown_range c h in ne_eqb c 10 (λ e. omega (arith, p.0))

-- a word before what begins with no word
word_before : (c : ℕ) (word rest : List ℕ) → is_visible c ≡ true → list_all is_visible word ≡ true → ends_word rest ≡ true → words_of (c ∷ word ++ rest) ≡ (c ∷ word) ∷ words_of rest
word_before c [] rest h all ends =
    cond-false (is_blank c) (words_of rest) _ (not_blank c h) ∙ cond-true (ends_word rest) ((c ∷ []) ∷ words_of rest) (onto_first c (words_of rest)) ends
word_before c (d ∷ word) rest h all ends =
    let p = and_parts (is_visible d) (list_all is_visible word) all in
    cond-false (is_blank c) (words_of (d ∷ word ++ rest)) _ (not_blank c h)
    ∙ cond-false (is_blank d) ((c ∷ []) ∷ words_of (d ∷ word ++ rest)) (onto_first c (words_of (d ∷ word ++ rest))) (not_blank d p.0)
    ∙ ap (onto_first c) (word_before d word rest p.0 p.1 ends)

first_word : (word rest : List ℕ) → IsPlain word → ends_word rest ≡ true → words_of (word ++ rest) ≡ word ∷ words_of rest
first_word [] rest h ends = absurd (omega (arith, h.some))
first_word (c ∷ word) rest h ends = let p = and_parts (is_visible c) (list_all is_visible word) h.visible in word_before c word rest p.0 p.1 ends

spaces_end : (words : List (List ℕ)) → ends_word (spread words) ≡ true
spaces_end [] = refl
spaces_end (word ∷ words) = refl

words_behind : (words : List (List ℕ)) → ArePlain words → words_of (spread words) ≡ words
words_behind [] h = refl
words_behind (word ∷ words) h = first_word word (spread words) h.0 (spaces_end words) ∙ ap (λ ws. word ∷ ws) (words_behind words h.1)

pub words_are_cut : (words : List (List ℕ)) → ArePlain words → words_of (spaced words) ≡ words
words_are_cut [] h = refl
words_are_cut (word ∷ words) h = first_word word (spread words) h.0 (spaces_end words) ∙ ap (λ ws. word ∷ ws) (words_behind words h.1)

-- characters that are shown

visible_shown : (word : List ℕ) → list_all is_visible word ≡ true → list_all is_shown word ≡ true
visible_shown [] h = refl
visible_shown (c ∷ word) h =
    let p = and_parts (is_visible c) (list_all is_visible word) h in
    let range = visible_range c p.0 in
    both (is_shown c) (list_all is_shown word) (both (leb 32 c) (leb c 126) (grind (arith, range.0)) (grind (arith, range.1))) (visible_shown word p.1)

joined_shown : (a b : List ℕ) → list_all is_shown a ≡ true → list_all is_shown b ≡ true → list_all is_shown (a ++ b) ≡ true
joined_shown a b h g = list_all-append is_shown a b ∙ both (list_all is_shown a) (list_all is_shown b) h g

behind_shown : (words : List (List ℕ)) → ArePlain words → list_all is_shown (spread words) ≡ true
behind_shown [] h = refl
behind_shown (word ∷ words) h = joined_shown word (spread words) (visible_shown word h.0.visible) (behind_shown words h.1)

pub spaced_shown : (words : List (List ℕ)) → ArePlain words → list_all is_shown (spaced words) ≡ true
spaced_shown [] h = refl
spaced_shown (word ∷ words) h = joined_shown word (spread words) (visible_shown word h.0.visible) (behind_shown words h.1)

-- plain words together

pub plain_together : (a b : List (List ℕ)) → ArePlain a → ArePlain b → ArePlain (a ++ b)
plain_together [] b h g = g
plain_together (word ∷ a) b h g = (h.0, plain_together a b h.1 g)

-- a letter before a plain word
pub plain_with : (c : ℕ) (word : List ℕ) → is_visible c ≡ true → IsPlain word → IsPlain (c ∷ word)
plain_with c word h plain = record { some = omega arith; visible = both (is_visible c) (list_all is_visible word) h plain.visible }
