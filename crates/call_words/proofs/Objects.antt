-- The letters of an object
use Rattle.std.proofs.Common.{◌≡◌, ℕ, zero, suc, ◌+◌, ◌<◌, ◌≤◌, Bool, true, false, cond, eqb, List, [], ◌∷◌, length, get_or, Option, Some, None, not, refl, arith, is_none}
use Rattle.std.specs.List.{prefix_len}
use Rattle.std.specs.Str.{IsUtf8}
use Rattle.std.proofs.lemmas.Bool.{eqb-true, ltb-false}
use Rattle.std.proofs.lemmas.Str.{IsUtf8-from_ascii}
use Rattle.block_layouts.specs.Letters.{class_of, is_other, first_other}
use Rattle.call_words.specs.Reading.Words.{object_of}

-- each letter is ASCII
small : (b : ℕ) (s w p : Bool) → eqb b 83 ≡ s → eqb b 87 ≡ w → eqb b 80 ≡ p → is_none (class_of b) ≡ false → b < 128
small b true w p hs hw hp h = let e : b ≡ 83 = eqb-true b 83 hs in omega arith
small b false true p hs hw hp h = let e : b ≡ 87 = eqb-true b 87 hw in omega arith
small b false false true hs hw hp h = let e : b ≡ 80 = eqb-true b 80 hp in omega arith
small b false false false hs hw hp h = let k : is_none (class_of b) ≡ true = rw (hs, hw, hp) refl in absurd (cc)

ascii_by : (b : ℕ) (bs : List ℕ) (other : Bool) → is_other b ≡ other → length (b ∷ bs) ≤ cond (not other) (1 + prefix_len (λ x. not (is_other x)) bs) 0
    → (length bs ≤ prefix_len (λ x. not (is_other x)) bs → (i : ℕ) → get_or bs i 0 < 128) → (i : ℕ) → get_or (b ∷ bs) i 0 < 128
ascii_by b bs true is h rec i = absurd (omega arith)
ascii_by b bs false is h rec zero = small b (eqb b 83) (eqb b 87) (eqb b 80) refl refl refl is
ascii_by b bs false is h rec (suc i) = rec (omega arith) i

letters_ascii : (text : List ℕ) → length text ≤ prefix_len (λ x. not (is_other x)) text → (i : ℕ) → get_or text i 0 < 128
letters_ascii [] h i = omega arith
letters_ascii (b ∷ bs) h i = ascii_by b bs (is_other b) refl h (letters_ascii bs) i

none_given : (b : Bool) (n : ℕ) → cond b (Some n) None ≡ None → b ≡ false
none_given true n e = cc
none_given false n e = refl

letters_are_text : (text : List ℕ) → first_other text ≡ None → IsUtf8 text
letters_are_text text none = IsUtf8-from_ascii text (letters_ascii text (ltb-false _ _ (none_given _ _ none)))

object_by : (word : List ℕ) (o : Option ℕ) → first_other word ≡ o → (IsUtf8 word → ⊥) → object_of word ≡ None
unfolding object_of
object_by word None e wrong = absurd (wrong (letters_are_text word e))
object_by word (Some place) e wrong = rw e refl

pub no_object : (word : List ℕ) → (IsUtf8 word → ⊥) → object_of word ≡ None
no_object word wrong = object_by word (first_other word) refl wrong
