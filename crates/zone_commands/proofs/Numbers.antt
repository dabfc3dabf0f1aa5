-- Which words are numbers
use Rattle.std.proofs.Common.{◌≡◌, ◌==◌, ◌<◌, ◌^◌, ◌&&◌, ℕ, Bool, true, false, cond, List, [], ◌∷◌, length, Option, Some, None, nat_lt, refl, sym, ap, subst, arith}
use Rattle.std.specs.Char.{digit_value}
use Rattle.std.specs.List.{list_all}
use Rattle.std.specs.Str.Parse.{AllDigits, IsNumeral, digits_value, without_leading_plus}
use Rattle.std.proofs.lemmas.Bool.{and_parts, eqb-true, ltb-true, lt-ltb}
use Rattle.zone_commands.specs.CommandLine.{are_digits, number_of, is_dashed, IsNumber}

-- digits

all_ok : (digits : List ℕ) → list_all (λ c. nat_lt (digit_value c) 10) digits ≡ true → AllDigits 10 digits
all_ok [] e = tt
all_ok (c ∷ digits) e =
    let p = and_parts (nat_lt (digit_value c) 10) (list_all (λ d. nat_lt (digit_value d) 10) digits) e in
    (ltb-true (digit_value c) 10 p.0, all_ok digits p.1)

all_from : (digits : List ℕ) → AllDigits 10 digits → list_all (λ c. nat_lt (digit_value c) 10) digits ≡ true
all_from [] h = refl
all_from (c ∷ digits) h = rw (lt-ltb (digit_value c) 10 h.0) (all_from digits h.1)

both_true : (a b : Bool) → a ≡ true → b ≡ true → (a && b) ≡ true
both_true a b p q = rw (p, q) refl

digits_ok : (digits : List ℕ) → are_digits digits ≡ true → IsNumeral 10 digits
digits_ok digits e =
    let p = and_parts (nat_lt 0 (length digits)) (list_all (λ c. nat_lt (digit_value c) 10) digits) e in
    (ltb-true 0 (length digits) p.0, all_ok digits p.1)

digits_from : (digits : List ℕ) → IsNumeral 10 digits → are_digits digits ≡ true
digits_from digits h = both_true (nat_lt 0 (length digits)) (list_all (λ c. nat_lt (digit_value c) 10) digits) (lt-ltb 0 (length digits) h.0) (all_from digits h.1)

-- numbers

-- a choice that gave a value
given : {A : Type 0} (b : Bool) (x y : A) → cond b (Some x) None ≡ Some y → (b ≡ true) × (x ≡ y)
given true x y e = (refl, cc)
given false x y e = cc

pub number_ok : (word : List ℕ) (n : ℕ) → number_of word ≡ Some n → IsNumber word n
unfolding number_of
number_ok word n e =
    let digits = without_leading_plus word in
    let p = given (are_digits digits && nat_lt (digits_value 10 digits) (2 ^ 64)) (digits_value 10 digits) n e in
    let q = and_parts (are_digits digits) (nat_lt (digits_value 10 digits) (2 ^ 64)) p.0 in
    record { digits = digits_ok digits q.0; value = sym p.1; small = subst (λ m. m < 2 ^ 64) p.1 (ltb-true (digits_value 10 digits) (2 ^ 64) q.1) }

pub number_from : (word : List ℕ) (n : ℕ) → IsNumber word n → number_of word ≡ Some n
unfolding number_of
number_from word n h =
    let digits = without_leading_plus word in
    let small : digits_value 10 digits < 2 ^ 64 = subst (λ m. m < 2 ^ 64) h.value h.small in
    let is = both_true (are_digits digits) (nat_lt (digits_value 10 digits) (2 ^ 64)) (digits_from digits h.digits) (lt-ltb (digits_value 10 digits) (2 ^ 64) small) in
    rw is (ap Some (sym h.value))

-- the digits of a word are a numeral of 64 bits
abbrev IsSmallNumeral : List ℕ → Type 0
IsSmallNumeral word = IsNumeral 10 (without_leading_plus word) × (digits_value 10 (without_leading_plus word) < 2 ^ 64)

-- what std reads of a word is the number that it is, and where it reads none the word is none
pub number_read : (word : List ℕ) (n : ℕ) → IsSmallNumeral word → n ≡ digits_value 10 (without_leading_plus word) → number_of word ≡ Some n
number_read word n numeral value = number_from word n (record { digits = numeral.0; value = value; small = subst (λ m. m < 2 ^ 64) (sym value) numeral.1 })

pub number_refused : (word : List ℕ) → ¬ IsSmallNumeral word → number_of word ≡ None
number_refused word none = by (number_of word) refl
  where
    by : (o : Option ℕ) → number_of word ≡ o → o ≡ None
    by None is = refl
    by (Some n) is = let number = number_ok word n is in absurd (none (number.digits, subst (λ m. m < 2 ^ 64) number.value number.small))

-- a number begins with no dash
pub number_not_dashed : (word : List ℕ) (n : ℕ) → IsNumber word n → is_dashed word ≡ false
number_not_dashed [] n h = refl
number_not_dashed (c ∷ word) n h = by (c == 45) refl
  where
    by : (b : Bool) → (c == 45) ≡ b → (c == 45) ≡ false
    by false e = e
    by true e =
        let dash : IsNumeral 10 (without_leading_plus (45 ∷ word)) = subst (λ d. IsNumeral 10 (without_leading_plus (d ∷ word))) (eqb-true c 45 e) h.digits in
        let digit : digit_value 45 < 10 = dash.1.0 in
        absurd (omega (arith, digit))
