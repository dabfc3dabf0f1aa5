-- The text of an object's layout: a letter for each word
use Rattle.std.specs.Prelude.{◌≡◌, ℕ, ◌^◌, ◌≤◌, ◌<◌, ◌==◌, Bool, List, [], length, position, Option, Some, None, Result, Ok, Err, MatchOption, if◌then◌else◌, is_none}
use Rattle.std.specs.List.{filter_map}
use Rattle.az_base.specs.declared.word.Class.{Class}
use Rattle.az_base.specs.declared.word.Class.TheVariants as class
use Rattle.block_layouts.specs.declared.layout.Shape.TheVariants as shape
use Rattle.block_layouts.specs.declared.layout.Layout.{Layout}
use Rattle.block_layouts.specs.declared.layout.LayoutErr.{LayoutErr}
use Rattle.block_layouts.specs.declared.layout.LayoutErr.TheVariants as errors

-- S is Strong, W is Weak, P is Plain
abbrev pub class_of : ℕ → Option Class
class_of letter = if letter == 83 then Some class.Strong else if letter == 87 then Some class.Weak else if letter == 80 then Some class.Plain else None

-- it is none of the three letters
abbrev pub is_other : ℕ → Bool
is_other letter = is_none (class_of letter)

-- the classes of a text of letters
abbrev pub classes_of : List ℕ → List Class
classes_of text = filter_map class_of text

-- the place of the first byte that is none of the three letters
abbrev pub first_other : List ℕ → Option ℕ
first_other text = position is_other text

-- what a text says as an object: its layout where it is one to 4,096 letters, and else the first of the three errors; want of memory may come in place of a layout
abbrev pub Parses : List ℕ → Result Layout LayoutErr → Type 0
Parses text (Ok layout) = (first_other text ≡ None) × (0 < length text) × (length text ≤ 4096) × (layout ≡ shape.Object (classes_of text))
Parses text (Err errors.Empty) = text ≡ []
Parses text (Err (errors.Letter place)) = first_other text ≡ Some place
Parses text (Err errors.TooLong) = MatchOption (first_other text) (4096 < length text) (λ place. 2 ^ 32 ≤ place)
Parses text (Err errors.NoMemory) = (first_other text ≡ None) × (0 < length text) × (length text ≤ 4096)

-- the error isn't about a letter
abbrev pub IsNoLetter : LayoutErr → Type 0
IsNoLetter (errors.Letter place) = ⊥
IsNoLetter _ = Unit {0}
