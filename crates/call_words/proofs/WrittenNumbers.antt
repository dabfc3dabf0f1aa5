-- Written numbers are numerals, and each word with a number is plain
use Rattle.std.proofs.Common.{◌≡◌, ℕ, ◌<◌, ◌≤◌, ◌^◌, suc, true, false, not, leb, ltb, List, [], ◌∷◌, ◌++◌, length, None, refl, sym, ap, ◌∙◌, arith, rules, append_assoc}
use Rattle.std.specs.List.{flat_map, list_all, prefix_len}
use Rattle.std.specs.Char.{is_ascii_digit}
use Rattle.std.specs.Fmt.{decimal}
use Rattle.std.specs.Int.{IsInRange}
use Rattle.std.specs.Str.Parse.{digits_value}
use Rattle.std.proofs.lemmas.Bool.{leb-true, le-leb, le-ltb, and_parts, and_from}
use Rattle.std.proofs.lemmas.List.Folds.{list_all-append}
use Rattle.std.proofs.lemmas.List.{length-append}
use Rattle.std.proofs.lemmas.Fmt.{digits_decimal, digits_value-decimal, length-decimal-le, decimal_nonempty}
use Rattle.std.proofs.lemmas.Str.Parse.{IsDigitsTest, IsNumeralModel, numerals_by_value}
use Rattle.std.proofs.lemmas.Grind.{common_steps}
use Rattle.az_base.specs.declared.block_id.BlockId.{BlockId}
use Rattle.az_base.specs.declared.numbers.TheConstants.{MOST_THREADS}
use Rattle.az_base.specs.declared.word.Class.{Class}
use Rattle.az_base.specs.declared.word.Class.TheVariants as class
use Rattle.az_base.specs.Texts.{reg_text, root_text, weak_text, key_text, id_text}
use Rattle.az_words.specs.Grammar.{IsNumeral, IsNumberIn}
use Rattle.block_layouts.specs.declared.layout.Shape.TheVariants as shape
use Rattle.block_layouts.specs.Letters.{is_other, first_other, classes_of}
use Rattle.call_words.specs.Grammar.{IsLettered, SaysId, IsObject}
use Rattle.call_words.specs.Spacing.{is_visible, IsPlain}
use Rattle.call_words.specs.Words.{letter_text}
use Rattle.call_words.specs.Ranges.{IsId}
use Rattle.call_words.proofs.PlainWords.{plain_with}

digits_told : IsDigitsTest (λ ds. list_all is_ascii_digit ds ≡ true)
digits_told = record {
  empty = refl;
  parts = λ c cs h. let p = and_parts (is_ascii_digit c) (list_all is_ascii_digit cs) h in (digit_range c p.0, p.1);
  more = λ c cs r h. and_from (is_ascii_digit c) (list_all is_ascii_digit cs) (range_digit c r) h;
}
  where
    digit_range : (c : ℕ) → is_ascii_digit c ≡ true → IsInRange 48 57 c
    digit_range c h = let p = and_parts (leb 48 c) (leb c 57) h in (leb-true 48 c p.0, leb-true c 57 p.1)

    range_digit : (c : ℕ) → IsInRange 48 57 c → is_ascii_digit c ≡ true
    range_digit c r = and_from (leb 48 c) (leb c 57) (le-leb 48 c r.0) (le-leb c 57 r.1)

digits_own : IsNumeralModel (λ ds. list_all is_ascii_digit ds ≡ true) (digits_value 10)
digits_own = numerals_by_value (λ ds. list_all is_ascii_digit ds ≡ true) digits_told

digits_visible : (word : List ℕ) → list_all is_ascii_digit word ≡ true → list_all is_visible word ≡ true
digits_visible [] h = refl
digits_visible (c ∷ word) h =
    let p = and_parts (is_ascii_digit c) (list_all is_ascii_digit word) h in
    let q = and_parts (leb 48 c) (leb c 57) p.0 in
    let low : 48 ≤ c = leb-true 48 c q.0 in
    let high : c ≤ 57 = leb-true c 57 q.1 in
    and_from (is_visible c) (list_all is_visible word) (and_from (leb 33 c) (leb c 126) (le-leb 33 c (omega arith)) (le-leb c 126 (omega arith))) (digits_visible word p.1)

pub decimal_digits : (n : ℕ) → n < 2 ^ 64 → list_all is_ascii_digit (decimal n) ≡ true
decimal_digits n h = digits_decimal digits_own n h

pub decimal_plain : (n : ℕ) → n < 2 ^ 64 → IsPlain (decimal n)
decimal_plain n h = record { some = decimal_nonempty n h; visible = digits_visible (decimal n) (decimal_digits n h) }

decimal_numeral : (n : ℕ) → n < 2 ^ 64 → IsNumeral (decimal n) n
decimal_numeral n h = record {
  digits = decimal_digits n h;
  some = decimal_nonempty n h;
  short = length-decimal-le 20 n (omega arith) (omega arith) h;
  value = digits_value-decimal digits_own n h;
  fits = h;
}

pub decimal_in : (low high n : ℕ) → low ≤ n → n ≤ high → high < 2 ^ 64 → IsNumberIn low high (decimal n) n
decimal_in low high n l h fits = record { numeral = decimal_numeral n (omega arith); low_enough = l; high_enough = h }

pub lettered_in : (letter high n : ℕ) → n ≤ high → high < 2 ^ 64 → IsLettered letter high (letter ∷ decimal n) n
lettered_in letter high n h fits = (decimal n, refl, decimal_in 0 high n (omega arith) h fits)

pub reg_in : (r : ℕ) → r ≤ 15 → IsLettered 114 15 (reg_text r) r
unfolding reg_text
reg_in r h = lettered_in 114 15 r h (omega arith)

pub root_in : (g : ℕ) → g ≤ 255 → IsLettered 103 255 (root_text g) g
unfolding root_text
root_in g h = lettered_in 103 255 g h (omega arith)

pub weak_in : (w : ℕ) → w ≤ 255 → IsLettered 119 255 (weak_text w) w
unfolding weak_text
weak_in w h = lettered_in 119 255 w h (omega arith)

pub key_in : (k : ℕ) → k ≤ 255 → IsLettered 107 255 (key_text k) k
unfolding key_text
key_in k h = lettered_in 107 255 k h (omega arith)

pub id_spelled : (id : BlockId) → id_text id ≡ decimal id.thread ++ 46 ∷ decimal id.serial
unfolding id_text
id_spelled id = first_of (search rules, simp append_assoc, grind (arith, common_steps))

pub id_in : (id : BlockId) → IsId id → SaysId (id_text id) id
id_in id h = (decimal id.thread, decimal id.serial, id_spelled id, decimal_in 1 MOST_THREADS id.thread h.0.0 h.0.1 (omega arith), decimal_in 0 4294967295 id.serial (omega arith) h.1 (omega arith))

pub reg_plain : (r : ℕ) → r ≤ 15 → IsPlain (reg_text r)
unfolding reg_text
reg_plain r h = plain_with 114 (decimal r) refl (decimal_plain r (omega arith))

pub root_plain : (g : ℕ) → g ≤ 255 → IsPlain (root_text g)
unfolding root_text
root_plain g h = plain_with 103 (decimal g) refl (decimal_plain g (omega arith))

pub weak_plain : (w : ℕ) → w ≤ 255 → IsPlain (weak_text w)
unfolding weak_text
weak_plain w h = plain_with 119 (decimal w) refl (decimal_plain w (omega arith))

pub key_plain : (k : ℕ) → k ≤ 255 → IsPlain (key_text k)
unfolding key_text
key_plain k h = plain_with 107 (decimal k) refl (decimal_plain k (omega arith))

pub plain_both : (a b : List ℕ) → IsPlain a → IsPlain b → IsPlain (a ++ b)
plain_both a b h g = record {
  some = simp (length-append) (omega (arith, h.some));
  visible = list_all-append is_visible a b ∙ and_from (list_all is_visible a) (list_all is_visible b) h.visible g.visible;
}

pub id_plain : (id : BlockId) → IsId id → IsPlain (id_text id)
id_plain id h = rw (id_spelled id) (plain_both (decimal id.thread) (46 ∷ decimal id.serial) (decimal_plain id.thread (omega (arith, h.0.1))) (plain_with 46 (decimal id.serial) refl (decimal_plain id.serial (omega (arith, h.1)))))

-- the letters of an object

letters_front : (classes : List Class) → prefix_len (λ c. not (is_other c)) (flat_map letter_text classes) ≡ length (flat_map letter_text classes)
letters_front [] = refl
letters_front (class.Strong ∷ classes) = let rest = letters_front classes in omega arith
letters_front (class.Weak ∷ classes) = let rest = letters_front classes in omega arith
letters_front (class.Plain ∷ classes) = let rest = letters_front classes in omega arith

letters_other : (classes : List Class) → first_other (flat_map letter_text classes) ≡ None
letters_other classes =
    let all = letters_front classes in
    let past : ltb (prefix_len (λ c. not (is_other c)) (flat_map letter_text classes)) (length (flat_map letter_text classes)) ≡ false = le-ltb _ _ (omega arith) in
    rw past refl

letters_classes : (classes : List Class) → classes_of (flat_map letter_text classes) ≡ classes
letters_classes [] = refl
letters_classes (class.Strong ∷ classes) = ap (λ cs. class.Strong ∷ cs) (letters_classes classes)
letters_classes (class.Weak ∷ classes) = ap (λ cs. class.Weak ∷ cs) (letters_classes classes)
letters_classes (class.Plain ∷ classes) = ap (λ cs. class.Plain ∷ cs) (letters_classes classes)

letters_length : (classes : List Class) → length (flat_map letter_text classes) ≡ length classes
letters_length [] = refl
letters_length (class.Strong ∷ classes) = ap (λ n. suc n) (letters_length classes)
letters_length (class.Weak ∷ classes) = ap (λ n. suc n) (letters_length classes)
letters_length (class.Plain ∷ classes) = ap (λ n. suc n) (letters_length classes)

letters_visible : (classes : List Class) → list_all is_visible (flat_map letter_text classes) ≡ true
letters_visible [] = refl
letters_visible (class.Strong ∷ classes) = letters_visible classes
letters_visible (class.Weak ∷ classes) = letters_visible classes
letters_visible (class.Plain ∷ classes) = letters_visible classes

pub letters_plain : (classes : List Class) → 0 < length classes → IsPlain (flat_map letter_text classes)
letters_plain classes some = record { some = omega (arith, letters_length classes, some); visible = letters_visible classes }

pub object_in : (classes : List Class) → 0 < length classes → length classes ≤ 4096 → IsObject (flat_map letter_text classes) (shape.Object classes)
object_in classes some short =
    (letters_other classes, omega (arith, letters_length classes, some), omega (arith, letters_length classes, short), ap (λ cs. shape.Object cs) (sym (letters_classes classes)))
