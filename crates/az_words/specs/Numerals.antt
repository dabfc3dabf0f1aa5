-- The numbers that words say
use Rattle.std.specs.Prelude.{ℕ, ◌^◌, List, length, ◌==◌, ◌&&◌, not, nat_lt, nat_le, if◌then◌else◌, Option, Some, None, option_and_then}
use Rattle.std.specs.List.{list_all}
use Rattle.std.specs.Char.{is_ascii_digit}
use Rattle.std.specs.Str.Parse.{digits_value}

-- the number, where 64 bits hold it
abbrev pub below_2_64 : ℕ → Option ℕ
below_2_64 n = if nat_lt n (2 ^ 64) then Some n else None

-- the value of 1 to 20 decimal digits, where it is below 2 ^ 64
unfoldable pub numeral_of : List ℕ → Option ℕ
numeral_of word = if not (list_all is_ascii_digit word) then None else if length word == 0 then None else if nat_lt 20 (length word) then None
    else below_2_64 (digits_value 10 word)

-- the number, where it is in this range
unfoldable pub within : ℕ → ℕ → ℕ → Option ℕ
within low high n = if nat_le low n && nat_le n high then Some n else None

-- the value of a numeral in this range
unfoldable pub number_in : ℕ → ℕ → List ℕ → Option ℕ
number_in low high word = option_and_then (within low high) (numeral_of word)
