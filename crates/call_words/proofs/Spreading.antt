-- Words that are added one after the other
use Rattle.std.proofs.Common.{◌≡◌, ℕ, ◌+◌, ◌<◌, List, [], ◌∷◌, ◌++◌, length, take, get_or, ap, ◌∙◌, sym, append_assoc, append-nil, Result, Ok, Err, OnOk}
use Rattle.std.specs.List.{flat_map}
use Rattle.std.proofs.lemmas.List.{take_more}
use Rattle.std.proofs.lemmas.List.Concat.{flat_map-append}
use Rattle.call_words.specs.Spacing.{spread}

pub spread_append : (xs ys : List (List ℕ)) → spread (xs ++ ys) ≡ spread xs ++ spread ys
spread_append xs ys = flat_map-append (λ word. 32 ∷ word) xs ys

-- so many elements as words, and one element more
pub words_more : {X : Type 0} (f : X → List (List ℕ)) (xs : List X) (i : ℕ) (d : X) → i < length xs
    → spread (flat_map f (take (i + 1) xs)) ≡ spread (flat_map f (take i xs)) ++ spread (f (get_or xs i d))
words_more f xs i d l =
    ap (λ ys. spread (flat_map f ys)) (take_more xs i d l) ∙ ap spread (flat_map-append f (take i xs) (get_or xs i d ∷ []))
    ∙ ap (λ ws. spread (flat_map f (take i xs) ++ ws)) (append-nil (f (get_or xs i d))) ∙ spread_append (flat_map f (take i xs)) (f (get_or xs i d))

-- what was added in two steps
pub added : (old middle new first second both : List ℕ) → middle ≡ old ++ first → new ≡ middle ++ second → both ≡ first ++ second → new ≡ old ++ both
added old middle new first second both m n b = n ∙ ap (λ t. t ++ second) m ∙ append_assoc old first second ∙ ap (λ t. old ++ t) (sym b)

-- the same where the second step may have failed
pub on_added : {T E : Type 0} (r : Result T E) (old middle new first second both : List ℕ) → middle ≡ old ++ first → both ≡ first ++ second → OnOk r (new ≡ middle ++ second) → OnOk r (new ≡ old ++ both)
on_added (Ok x) old middle new first second both m b n = added old middle new first second both m n b
on_added (Err e) old middle new first second both m b n = tt
