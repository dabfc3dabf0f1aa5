-- The value of a word, digit after digit.
use Rattle.std.proofs.Common.{◌≡◌, ℕ, ◌+◌, ◌*◌, ◌-◌, ◌<◌, ◌≤◌, ◌^◌, Bool, true, false, cond, eqb, ltb, leb, not, List, [], ◌∷◌, length, take, get_or, Option, Some, None, refl, sym, ap, ◌∙◌, arith, take_all}
use Rattle.std.specs.List.{list_all}
use Rattle.std.specs.Char.{is_ascii_digit, digit_value}
use Rattle.std.specs.Str.Parse.{digits_value}
use Rattle.std.proofs.lemmas.Bool.{leb-true, ltb-true, lt-ltb, le-ltb, ltb-false, ne_eqb, and_parts}
use Rattle.std.proofs.lemmas.Int.Digits.{digits_value_more}
use Rattle.std.proofs.lemmas.List.Folds.{list_all_at, list_all_more}
use Rattle.std.proofs.lemmas.Str.Parse.{digits_value-take-le}
use Rattle.az_words.specs.Numerals.{below_2_64, numeral_of}
use Rattle.az_words.proofs.NumeralLaws.{chosen, some_same}

-- the first digits, as far as they were read
pub record Front (word : List ℕ) (i value : ℕ) : Type 0 where
  pub digits : list_all is_ascii_digit (take i word) ≡ true
  pub says : value ≡ digits_value 10 (take i word)
  pub fits : value < 2 ^ 64

pub nothing_read : (word : List ℕ) → Front word 0 0
nothing_read word = record { digits = refl; says = refl; fits = omega arith }

-- a digit says how far it is from 0
digit_is : (c : ℕ) → is_ascii_digit c ≡ true → digit_value c ≡ c - 48
digit_is c h =
    let p = and_parts (leb 48 c) (leb c 57) h in
    let low : 48 ≤ c = leb-true 48 c p.0 in
    let high : c ≤ 57 = leb-true c 57 p.1 in
    let first : ltb c 48 ≡ false = le-ltb c 48 low in
    let second : ltb c 58 ≡ true = lt-ltb c 58 (omega arith) in
    rw (first, second) refl

some_below : (b : Bool) (n v : ℕ) → cond b (Some n) None ≡ Some v → v ≡ n
some_below true n v e = cc
some_below false n v e = cc

none_below : (b : Bool) (n : ℕ) → ◌≡◌ {A = Option ℕ} (cond b (Some n) None) None → b ≡ false
none_below true n e = cc
none_below false n e = refl

fits_below : (n v : ℕ) → below_2_64 n ≡ Some v → v < 2 ^ 64
fits_below n v e =
    let p = chosen (ltb n (2 ^ 64)) (Some n) v e in
    let same : n ≡ v = some_same n v p.1 in
    let fits : n < 2 ^ 64 = ltb-true _ _ p.0 in
    omega arith

value_with : (word : List ℕ) (i value : ℕ) → i < length word → is_ascii_digit (get_or word i 0) ≡ true → Front word i value
    → digits_value 10 (take (i + 1) word) ≡ value * 10 + (get_or word i 0 - 48)
value_with word i value l d h =
    digits_value_more 10 word i l ∙ ap (λ v. v * 10 + digit_value (get_or word i 0)) (sym h.says) ∙ ap (λ k. value * 10 + k) (digit_is (get_or word i 0) d)

pub one_digit : (word : List ℕ) (i value v : ℕ) → i < length word → is_ascii_digit (get_or word i 0) ≡ true → Front word i value
    → below_2_64 (value * 10 + (get_or word i 0 - 48)) ≡ Some v → Front word (i + 1) v
one_digit word i value v l d h e = record {
  digits = list_all_more is_ascii_digit word i 0 l ∙ rw (h.digits, d) refl;
  says = some_below _ _ v e ∙ sym (value_with word i value l d h);
  fits = fits_below (value * 10 + (get_or word i 0 - 48)) v e;
}

-- whatever else holds, nothing is read
all_none : (a b c : Bool) → ◌≡◌ {A = Option ℕ} (cond a None (cond b None (cond c None None))) None
all_none true b c = refl
all_none false true c = refl
all_none false false true = refl
all_none false false false = refl

long_none : (a b : Bool) (o : Option ℕ) → cond a None (cond b None (cond true None o)) ≡ None
long_none true b o = refl
long_none false true o = refl
long_none false false o = refl

pub none_there : (word : List ℕ) → word ≡ [] → None ≡ numeral_of word
unfolding numeral_of
none_there word e = rw e refl

pub too_long : (word : List ℕ) → 20 < length word → None ≡ numeral_of word
unfolding numeral_of
too_long word h = rw (lt-ltb 20 (length word) h) (sym (long_none (not (list_all is_ascii_digit word)) (eqb (length word) 0) (below_2_64 (digits_value 10 word))))

pub no_digit : (word : List ℕ) (i : ℕ) → i < length word → is_ascii_digit (get_or word i 0) ≡ false → numeral_of word ≡ None
unfolding numeral_of
no_digit word i l d = rw (list_all_at is_ascii_digit word i 0 l d) refl

pub too_large : (word : List ℕ) (i value : ℕ) → i < length word → is_ascii_digit (get_or word i 0) ≡ true → Front word i value
    → below_2_64 (value * 10 + (get_or word i 0 - 48)) ≡ None → numeral_of word ≡ None
unfolding numeral_of
too_large word i value l d h e =
    let large : 2 ^ 64 ≤ value * 10 + (get_or word i 0 - 48) = ltb-false _ _ (none_below _ _ e) in
    let same = value_with word i value l d h in
    let grows : digits_value 10 (take (i + 1) word) ≤ digits_value 10 word = digits_value-take-le 10 word (i + 1) (omega arith) in
    let whole : ltb (digits_value 10 word) (2 ^ 64) ≡ false = le-ltb _ _ (omega arith) in
    rw whole (all_none (not (list_all is_ascii_digit word)) (eqb (length word) 0) (ltb 20 (length word)))

pub all_read : (word : List ℕ) (i value : ℕ) → length word ≤ i → 0 < length word → length word ≤ 20 → Front word i value → Some value ≡ numeral_of word
unfolding numeral_of
all_read word i value end some short h =
    let all : take i word ≡ word = take_all i word end in
    let digits : list_all is_ascii_digit word ≡ true = ap (list_all is_ascii_digit) (sym all) ∙ h.digits in
    let is : digits_value 10 word ≡ value = ap (digits_value 10) (sym all) ∙ sym h.says in
    let a : eqb (length word) 0 ≡ false = ne_eqb (length word) 0 (λ e. omega arith) in
    let b : ltb 20 (length word) ≡ false = le-ltb 20 (length word) short in
    let f : ltb value (2 ^ 64) ≡ true = lt-ltb _ _ h.fits in
    rw (digits, a, b, is, f) refl

-- a digit alone is a numeral
pub digit_alone : (c v : ℕ) → is_ascii_digit c ≡ true → v ≡ c - 48 → Some v ≡ numeral_of (c ∷ [])
digit_alone c v d is =
    let p = and_parts (leb 48 c) (leb c 57) d in
    let high : c ≤ 57 = leb-true c 57 p.1 in
    let zero_before : c - 48 ≡ 0 * 10 + (c - 48) = omega arith in
    all_read (c ∷ []) 1 v (omega arith) (omega arith) (omega arith) record {
      digits = rw d refl;
      says = is ∙ zero_before ∙ sym (value_with (c ∷ []) 0 0 (omega arith) d (nothing_read (c ∷ [])));
      fits = omega arith;
    }
