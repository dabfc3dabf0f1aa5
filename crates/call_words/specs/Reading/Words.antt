-- What single words of a call line say
use Rattle.std.specs.Prelude.{ℕ, List, [], ◌∷◌, ◌==◌, ◌&&◌, length, nat_lt, nat_le, if◌then◌else◌, Option, Some, None, is_none}
use Rattle.std.specs.Option.{option_map}
use Rattle.az_base.specs.declared.numbers.TheConstants.{MOST_THREADS}
use Rattle.az_base.specs.declared.block_id.BlockId.{BlockId}
use Rattle.az_base.specs.declared.numbers.Key.{Key}
use Rattle.az_base.specs.declared.numbers.RootNo.{RootNo}
use Rattle.az_base.specs.declared.numbers.WeakNo.{WeakNo}
use Rattle.az_base.specs.Ids.{id_of}
use Rattle.az_words.specs.Numerals.{number_in}
use Rattle.az_words.specs.Parts.{cut_at}
use Rattle.block_layouts.specs.declared.layout.Shape.{Shape}
use Rattle.block_layouts.specs.declared.layout.Shape.TheVariants as shape
use Rattle.block_layouts.specs.Letters.{first_other, classes_of}

-- a numeral 1 to 16
unfoldable pub thread_of : List ℕ → Option ℕ
thread_of word = number_in 1 MOST_THREADS word

-- this letter and a numeral up to a bound
abbrev pub lettered : ℕ → ℕ → List ℕ → Option ℕ
lettered letter high [] = None
lettered letter high (c ∷ word) = if c == letter then number_in 0 high word else None

-- r and a numeral 0 to 15
unfoldable pub reg_of : List ℕ → Option ℕ
reg_of word = lettered 114 15 word

-- g and a numeral 0 to 255
unfoldable pub root_of : List ℕ → Option RootNo
root_of word = option_map (λ n. record { 0 = n }) (lettered 103 255 word)

-- w and a numeral 0 to 255
unfoldable pub weak_of : List ℕ → Option WeakNo
weak_of word = option_map (λ n. record { 0 = n }) (lettered 119 255 word)

-- k and a numeral 0 to 255
unfoldable pub key_of : List ℕ → Option Key
key_of word = option_map (λ n. record { 0 = n }) (lettered 107 255 word)

-- an id of a thread and a serial, where both are there
abbrev pub id_from : Option ℕ → Option ℕ → Option BlockId
id_from (Some thread) (Some serial) = Some (id_of thread serial)
id_from _ _ = None

-- a thread and a serial
abbrev pub id_by : Option (List ℕ × List ℕ) → Option BlockId
id_by None = None
id_by (Some parts) = id_from (number_in 1 MOST_THREADS parts.0) (number_in 0 4294967295 parts.1)

-- a thread, a dot, and a serial of 32 bits
unfoldable pub block_of : List ℕ → Option BlockId
block_of word = id_by (cut_at 46 word)

-- an object of 1 to 4,096 words: a letter S, W or P for each
unfoldable pub object_of : List ℕ → Option Shape
object_of word = if is_none (first_other word) && nat_lt 0 (length word) && nat_le (length word) 4096 then Some (shape.Object (classes_of word)) else None
