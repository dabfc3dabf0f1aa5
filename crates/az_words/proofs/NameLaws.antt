-- A name that is found is how the word is spelled.
use Rattle.std.proofs.Common.{◌≡◌, ℕ, Bool, true, false, cond, List, [], ◌∷◌, Option, Some, refl, ap, ◌∙◌}
use Rattle.std.specs.Str.{bytes_eq}
use Rattle.std.proofs.lemmas.Slice.Eq.{bytes_eq-Decides}
use Rattle.az_words.specs.Names.{name_among}
use Rattle.az_words.proofs.NumeralLaws.{some_same}

among_by : {N : Type 0} (text : N → List ℕ) (word : List ℕ) (name c : N) (b : Bool) (others : Option N) → bytes_eq word (text name) ≡ b → cond b (Some name) others ≡ Some c
    → (others ≡ Some c → word ≡ text c) → word ≡ text c
among_by text word name c true others is e rec = (bytes_eq-Decides word (text name)).0 is ∙ ap text (some_same name c e)
among_by text word name c false others is e rec = rec e

-- a name that was found is how the word is spelled
pub among_ok : {N : Type 0} (text : N → List ℕ) (names : List N) (word : List ℕ) (c : N) → name_among text names word ≡ Some c → word ≡ text c
among_ok text [] word c e = cc
among_ok text (name ∷ others) word c e = among_by text word name c (bytes_eq word (text name)) (name_among text others word) refl e (among_ok text others word c)
