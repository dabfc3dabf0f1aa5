-- The layout of a block: how many words, of which class, and the quanta that they take
use Rattle.std.specs.Prelude.{◌≡◌, ◌≢◌, ℕ, ◌+◌, ◌*◌, ◌/◌, ◌==◌, ◌<◌, ◌≤◌, nat_le, nat_lt, Bool, true, false, List, map, length, replicate, Option, Some, None, if◌then◌else◌, slice_get}
use Rattle.std.specs.List.{list_any}
use Rattle.az_base.specs.declared.word.Class.{Class}
use Rattle.az_base.specs.declared.word.Class.TheVariants as class
use Rattle.az_base.specs.declared.word.Word.{Word}
use Rattle.az_base.specs.declared.word.Word.TheVariants as word
use Rattle.block_layouts.specs.declared.layout.Shape.TheVariants as shape
use Rattle.block_layouts.specs.declared.layout.Layout.{Layout}

-- the number of words
abbrev pub len_of : Layout → ℕ
len_of (shape.Scanned n) = n
len_of (shape.Unscanned n) = n
len_of (shape.Object classes) = length classes

-- the class of the word at a place, and None past the end
abbrev pub class_at : Layout → ℕ → Option Class
class_at (shape.Scanned n) i = if nat_lt i n then Some class.Strong else None
class_at (shape.Unscanned n) i = if nat_lt i n then Some class.Plain else None
class_at (shape.Object classes) i = slice_get classes i

-- what a new word holds: null, and 0 in a Plain one
abbrev pub first_word : Class → Word
first_word class.Strong = word.Null
first_word class.Weak = word.Null
first_word class.Plain = word.Number 0

-- the words of a new block
abbrev pub first_words : Layout → List Word
first_words (shape.Scanned n) = replicate n word.Null
first_words (shape.Unscanned n) = replicate n (word.Number 0)
first_words (shape.Object classes) = map first_word classes

-- one class is the other
abbrev pub same_class : Class → Class → Bool
same_class class.Strong class.Strong = true
same_class class.Weak class.Weak = true
same_class class.Plain class.Plain = true
same_class _ _ = false

-- the quanta of a block of n words: small quanta of 2 words up to 64 words, and medium ones of 128 words, each as 64 small ones, above
abbrev pub quanta : ℕ → ℕ
quanta n = if n == 0 then 1 else (if nat_le n 64 then (n + 1) / 2 else 64 * ((n + 127) / 128))

-- an object's kind: 2 where it has a Strong word, else 3
abbrev pub object_kind : List Class → ℕ
object_kind classes = if list_any (same_class class.Strong) classes then 2 else 3

-- a number for each kind of memory: scanned, unscanned, an object with a Strong word, another object
abbrev pub kind_number : Layout → ℕ
kind_number (shape.Scanned n) = 0
kind_number (shape.Unscanned n) = 1
kind_number (shape.Object classes) = object_kind classes

-- the word at the place is a Strong one
abbrev pub IsStrongAt : Layout → ℕ → Type 0
IsStrongAt l i = class_at l i ≡ Some class.Strong

-- no Strong word stands at a place from i on and below j
abbrev pub NoStrongWithin : Layout → ℕ → ℕ → Type 0
NoStrongWithin l i j = (k : ℕ) → i ≤ k → k < j → class_at l k ≢ Some class.Strong
