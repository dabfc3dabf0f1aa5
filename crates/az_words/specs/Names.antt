-- The name that a word is
use Rattle.std.specs.Prelude.{List, [], ◌∷◌, ℕ, Option, Some, None, if◌then◌else◌}
use Rattle.std.specs.Str.{bytes_eq}

-- the first of these names whose text the word is
abbrev pub name_among : {N : Type 0} → (N → List ℕ) → List N → List ℕ → Option N
name_among text [] word = None
name_among text (name ∷ others) word = if bytes_eq word (text name) then Some name else name_among text others word
