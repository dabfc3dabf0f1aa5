-- What is read is a numeral, and each numeral is read.
use Rattle.std.proofs.Common.{◌≡◌, ℕ, ◌<◌, ◌≤◌, ◌^◌, Bool, true, false, cond, eqb, ltb, leb, List, length, Option, Some, None, option_and_then, refl, ap, ◌∙◌, arith}
use Rattle.std.specs.Str.Parse.{digits_value}
use Rattle.std.proofs.lemmas.Bool.{ltb-true, ltb-false, leb-true, lt-ltb, le-ltb, le-leb, ne_eqb, eqb-false, and_parts, not-false}
use Rattle.az_words.specs.Numerals.{numeral_of, within, number_in}
use Rattle.az_words.specs.Grammar.{IsNumeral, IsNumberIn}

-- a choice that gave a value went this way
pub guarded : {A : Type 0} (b : Bool) (o : Option A) (x : A) → cond b None o ≡ Some x → (b ≡ false) × (o ≡ Some x)
guarded true o x e = cc
guarded false o x e = (refl, e)

pub chosen : {A : Type 0} (b : Bool) (o : Option A) (x : A) → cond b o None ≡ Some x → (b ≡ true) × (o ≡ Some x)
chosen true o x e = (refl, e)
chosen false o x e = cc

pub and_then_some : {A B : Type 0} (f : A → Option B) (o : Option A) (y : B) → option_and_then f o ≡ Some y → (x : A) × (o ≡ Some x) × (f x ≡ Some y)
and_then_some f None y e = cc
and_then_some f (Some x) y e = (x, refl, e)

pub some_same : {A : Type 0} (a b : A) → Some a ≡ Some b → a ≡ b
some_same a b e = cc

pub numeral_ok : (word : List ℕ) (n : ℕ) → numeral_of word ≡ Some n → IsNumeral word n
unfolding numeral_of
numeral_ok word n e =
    let a = guarded _ _ n e in
    let b = guarded _ _ n a.1 in
    let c = guarded _ _ n b.1 in
    let d = chosen _ _ n c.1 in
    let value : digits_value 10 word ≡ n = some_same _ n d.1 in
    let fits : digits_value 10 word < 2 ^ 64 = ltb-true _ _ d.0 in
    let none : length word ≡ 0 → ⊥ = eqb-false (length word) 0 b.0 in
    let short : length word ≤ 20 = ltb-false 20 (length word) c.0 in
    record { digits = not-false _ a.0; some = omega arith; short = short; value = value; fits = omega arith }

pub numeral_from : (word : List ℕ) (n : ℕ) → IsNumeral word n → numeral_of word ≡ Some n
unfolding numeral_of
numeral_from word n h =
    let none : eqb (length word) 0 ≡ false = ne_eqb (length word) 0 (λ e. omega (arith, h.some)) in
    let short : ltb 20 (length word) ≡ false = le-ltb 20 (length word) h.short in
    let fits : ltb n (2 ^ 64) ≡ true = lt-ltb _ _ h.fits in
    rw (h.digits, none, short, h.value, fits) refl

pub number_ok : (low high : ℕ) (word : List ℕ) (n : ℕ) → number_in low high word ≡ Some n → IsNumberIn low high word n
unfolding number_in within
number_ok low high word n e =
    let a = and_then_some _ (numeral_of word) n e in
    let b = chosen _ _ n a.2 in
    let same : a.0 ≡ n = some_same _ n b.1 in
    let tests = and_parts _ _ b.0 in
    let l : low ≤ a.0 = leb-true _ _ tests.0 in
    let m : a.0 ≤ high = leb-true _ _ tests.1 in
    record { numeral = numeral_ok word n (a.1 ∙ ap Some same); low_enough = omega arith; high_enough = omega arith }

pub number_from : (low high : ℕ) (word : List ℕ) (n : ℕ) → IsNumberIn low high word n → number_in low high word ≡ Some n
unfolding number_in within
number_from low high word n h =
    let l : leb low n ≡ true = le-leb _ _ h.low_enough in
    let m : leb n high ≡ true = le-leb _ _ h.high_enough in
    rw (numeral_from word n h.numeral, l, m) refl
