-- What stands in a list of places
use Rattle.std.proofs.Common.{◌≡◌, ℕ, zero, suc, ◌++◌, List, [], ◌∷◌, Option, Some, None, map, slice_get, refl, ap, ◌∙◌, ◌⊎◌, inl, inr}
use Rattle.az_base.specs.declared.block_id.BlockId.{BlockId}
use Rattle.az_base.specs.declared.word.Word.{Word}
use Rattle.az_base.specs.declared.word.Word.TheVariants as word
use Rattle.quantum_space.specs.Shapes.{Has}
use Rattle.block_table.specs.Places.{somes, in_word}

pub in_either : (xs ys : List (Option BlockId)) (b : BlockId) → Has (somes (xs ++ ys)) b → Has (somes xs) b ⊎ Has (somes ys) b
in_either [] ys b h = inr h
in_either (None ∷ xs) ys b h = in_either xs ys b h
in_either (Some x ∷ xs) ys b (inl e) = inl (inl e)
in_either (Some x ∷ xs) ys b (inr h) = elim (in_either xs ys b h) [ inl k ↦ inl (inr k) | inr k ↦ inr k ]

pub in_first : (xs ys : List (Option BlockId)) (b : BlockId) → Has (somes xs) b → Has (somes (xs ++ ys)) b
in_first [] ys b h = absurd h
in_first (None ∷ xs) ys b h = in_first xs ys b h
in_first (Some x ∷ xs) ys b (inl e) = inl e
in_first (Some x ∷ xs) ys b (inr h) = inr (in_first xs ys b h)

pub in_second : (xs ys : List (Option BlockId)) (b : BlockId) → Has (somes ys) b → Has (somes (xs ++ ys)) b
in_second [] ys b h = h
in_second (None ∷ xs) ys b h = in_second xs ys b h
in_second (Some x ∷ xs) ys b h = inr (in_second xs ys b h)

-- at a place
pub place_in : (xs : List (Option BlockId)) (b : BlockId) → Has (somes xs) b → (i : ℕ) × (slice_get xs i ≡ Some (Some b))
place_in [] b h = absurd h
place_in (None ∷ xs) b h = let r = place_in xs b h in (suc r.0, r.1)
place_in (Some x ∷ xs) b (inl e) = (0, ap (λ y. Some (Some y)) e)
place_in (Some x ∷ xs) b (inr h) = let r = place_in xs b h in (suc r.0, r.1)

pub in_place : (xs : List (Option BlockId)) (b : BlockId) (i : ℕ) → slice_get xs i ≡ Some (Some b) → Has (somes xs) b
in_place [] b i e = cc
in_place (None ∷ xs) b zero e = cc
in_place (None ∷ xs) b (suc i) e = in_place xs b i e
in_place (Some x ∷ xs) b zero e = let same : x ≡ b = cc in inl same
in_place (Some x ∷ xs) b (suc i) e = inr (in_place xs b i e)

-- of words
pub word_in : (ws : List Word) (b : BlockId) → Has (somes (map in_word ws)) b → (i : ℕ) × (slice_get ws i ≡ Some (word.Block b))
word_in [] b h = absurd h
word_in (word.Null ∷ ws) b h = let r = word_in ws b h in (suc r.0, r.1)
word_in (word.Number n ∷ ws) b h = let r = word_in ws b h in (suc r.0, r.1)
word_in (word.Block x ∷ ws) b (inl e) = (0, ap (λ y. Some (word.Block y)) e)
word_in (word.Block x ∷ ws) b (inr h) = let r = word_in ws b h in (suc r.0, r.1)

pub in_words : (ws : List Word) (b : BlockId) (i : ℕ) → slice_get ws i ≡ Some (word.Block b) → Has (somes (map in_word ws)) b
in_words [] b i e = cc
in_words (word.Null ∷ ws) b zero e = cc
in_words (word.Number n ∷ ws) b zero e = cc
in_words (word.Block x ∷ ws) b zero e = let same : x ≡ b = cc in inl same
in_words (word.Null ∷ ws) b (suc i) e = in_words ws b i e
in_words (word.Number n ∷ ws) b (suc i) e = in_words ws b i e
in_words (word.Block x ∷ ws) b (suc i) e = inr (in_words ws b i e)

-- of a list that f makes
pub made_in : {X : Type 0} (f : X → Option BlockId) (xs : List X) (In : List X → X → Type 0) → ((x : X) (ys : List X) → In (x ∷ ys) x) → ((x y : X) (ys : List X) → In ys y → In (x ∷ ys) y)
    → (b : BlockId) → Has (somes (map f xs)) b → (x : X) × In xs x × (f x ≡ Some b)
made_in {X} f [] In here there b h = absurd h
made_in {X} f (x ∷ xs) In here there b h = go (f x) refl h (made_in f xs In here there b)
  where
    go : (o : Option BlockId) → f x ≡ o → Has (somes (o ∷ map f xs)) b → (Has (somes (map f xs)) b → (y : X) × In xs y × (f y ≡ Some b)) → (y : X) × In (x ∷ xs) y × (f y ≡ Some b)
    go None e h rest = let r = rest h in (r.0, there x r.0 xs r.1, r.2)
    go (Some c) e (inl s) rest = (x, here x xs, e ∙ ap (λ y. Some y) s)
    go (Some c) e (inr h) rest = let r = rest h in (r.0, there x r.0 xs r.1, r.2)
