-- Words on a line
use Rattle.std.specs.Prelude.{◌≡◌, ◌<◌, ◌&&◌, ℕ, Bool, true, List, [], ◌∷◌, ◌++◌, length, nat_le, Result, OnOk}
use Rattle.std.specs.List.{flat_map, list_all}

-- words, each behind a space
abbrev pub spread : List (List ℕ) → List ℕ
spread words = flat_map (λ word. 32 ∷ word) words

-- words separated by one space
abbrev pub spaced : List (List ℕ) → List ℕ
spaced [] = []
spaced (word ∷ words) = word ++ spread words

-- a line of words, with its line feed
abbrev pub fed_line : List (List ℕ) → List ℕ
fed_line words = spaced words ++ 10 ∷ []

-- at Ok the text was added at the end
abbrev pub Adds : {T E : Type 0} → List ℕ → List ℕ → Result T E → List ℕ → Type 0
Adds old new result text = OnOk result (new ≡ old ++ text)

-- a character that can be seen
abbrev pub is_visible : ℕ → Bool
is_visible c = nat_le 33 c && nat_le c 126

-- one or more characters that can be seen
pub record IsPlain (word : List ℕ) : Type 0 where
  pub some : 0 < length word
  pub visible : list_all is_visible word ≡ true

-- all words are such
abbrev pub ArePlain : List (List ℕ) → Type 0
ArePlain [] = Unit {0}
ArePlain (word ∷ words) = IsPlain word × ArePlain words
