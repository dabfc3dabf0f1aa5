-- Words of ids and of the last line, one after the other
use Rattle.std.proofs.Common.{◌≡◌, ℕ, ◌+◌, ◌<◌, List, [], ◌∷◌, ◌++◌, length, take, get_or, map, sym, ap, ◌∙◌, append_assoc, append-nil, codes}
use Rattle.std.proofs.lemmas.List.{take_more}
use Rattle.std.specs.Fmt.{decimal}
use Rattle.zone_model.specs.declared.entry.Stats.{Stats}
use Rattle.call_words.specs.Spacing.{spread, spaced}
use Rattle.call_words.proofs.Spreading.{spread_append}
use Rattle.history_text.specs.Words.{stats_words, end_words}

map_one : {X : Type 0} (f : X → List ℕ) (xs : List X) (x : X) → spread (map f (xs ++ x ∷ [])) ≡ spread (map f xs) ++ 32 ∷ f x
map_one f [] x = append-nil (32 ∷ f x)
map_one f (y ∷ ys) x = ap (λ ws. (32 ∷ f y) ++ ws) (map_one f ys x) ∙ sym (append_assoc (32 ∷ f y) (spread (map f ys)) (32 ∷ f x))

-- so many elements as words, and one element more
pub one_word_more : {X : Type 0} (f : X → List ℕ) (xs : List X) (i : ℕ) (d : X) → i < length xs
    → spread (map f (take (i + 1) xs)) ≡ spread (map f (take i xs)) ++ 32 ∷ f (get_or xs i d)
one_word_more f xs i d l = ap (λ ys. spread (map f ys)) (take_more xs i d l) ∙ map_one f (take i xs) (get_or xs i d)

pub end_spelled : (count : ℕ) (s : Stats) → spaced (end_words count s) ≡ (codes "end" ++ spread (codes "entries" ∷ decimal count ∷ [])) ++ spread (stats_words s)
unfolding end_words
end_spelled count s =
    ap (λ t. codes "end" ++ t) (spread_append (codes "entries" ∷ decimal count ∷ []) (stats_words s))
    ∙ sym (append_assoc (codes "end") (spread (codes "entries" ∷ decimal count ∷ [])) (spread (stats_words s)))
