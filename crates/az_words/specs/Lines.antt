-- Bytes as lines
use Rattle.std.specs.Prelude.{ℕ, Bool, List, [], ◌∷◌, ◌==◌, if◌then◌else◌}

-- only a line feed ends a line
abbrev pub is_feed : ℕ → Bool
is_feed b = b == 10

-- a byte before the first piece
abbrev pub onto_first : ℕ → List (List ℕ) → List (List ℕ)
onto_first b [] = (b ∷ []) ∷ []
onto_first b (piece ∷ pieces) = (b ∷ piece) ∷ pieces

-- a line feed ends a line; what stands after the last one is a line where it isn't empty
abbrev pub lines_of : List ℕ → List (List ℕ)
lines_of [] = []
lines_of (b ∷ bs) = if is_feed b then [] ∷ lines_of bs else onto_first b (lines_of bs)
