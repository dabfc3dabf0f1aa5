-- What a numeral is, apart from how it is read
use Rattle.std.specs.Prelude.{◌≡◌, ℕ, ◌<◌, ◌≤◌, ◌^◌, true, List, length}
use Rattle.std.specs.List.{list_all}
use Rattle.std.specs.Char.{is_ascii_digit}
use Rattle.std.specs.Str.Parse.{digits_value}

-- 1 to 20 decimal digits that stand for a number of 64 bits
pub record IsNumeral (word : List ℕ) (n : ℕ) : Type 0 where
  pub digits : list_all is_ascii_digit word ≡ true
  pub some : 0 < length word
  pub short : length word ≤ 20
  pub value : digits_value 10 word ≡ n
  pub fits : n < 2 ^ 64

-- a numeral in a range
pub record IsNumberIn (low high : ℕ) (word : List ℕ) (n : ℕ) : Type 0 where
  pub numeral : IsNumeral word n
  pub low_enough : low ≤ n
  pub high_enough : n ≤ high
