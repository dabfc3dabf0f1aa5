-- A line as words
use Rattle.std.specs.Prelude.{ℕ, Bool, true, List, [], ◌∷◌, ◌==◌, ◌||◌, if◌then◌else◌}
use Rattle.az_words.specs.Lines.{onto_first}

-- only spaces and tabs separate words
abbrev pub is_blank : ℕ → Bool
is_blank b = b == 32 || b == 9

-- no word goes on here
abbrev pub ends_word : List ℕ → Bool
ends_word [] = true
ends_word (b ∷ bs) = is_blank b

-- the longest runs of bytes that aren't blank
abbrev pub words_of : List ℕ → List (List ℕ)
words_of [] = []
words_of (b ∷ bs) = if is_blank b then words_of bs else if ends_word bs then (b ∷ []) ∷ words_of bs else onto_first b (words_of bs)
