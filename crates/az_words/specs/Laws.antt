-- What is read, said apart from how
use Rattle.std.specs.Prelude.{◌≡◌, ◌↔◌, ℕ, List, Some}
use Rattle.az_words.specs.Numerals.{numeral_of, number_in}
use Rattle.az_words.specs.Grammar.{IsNumeral, IsNumberIn}

-- exactly the numerals are read, each with its value
abbrev pub NumeralsAreRead : Type 0
NumeralsAreRead = (word : List ℕ) (n : ℕ) → (numeral_of word ≡ Some n) ↔ IsNumeral word n

-- exactly the numerals in a range are read as numbers in that range
abbrev pub NumbersAreRead : Type 0
NumbersAreRead = (low high : ℕ) (word : List ℕ) (n : ℕ) → (number_in low high word ≡ Some n) ↔ IsNumberIn low high word n
