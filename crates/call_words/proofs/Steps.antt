-- Readers one after the other
use Rattle.std.proofs.Common.{◌≡◌, ℕ, Bool, true, false, cond, List, [], ◌∷◌, Option, Some, None, refl, ap}
use Rattle.call_words.specs.Reading.Calls.{◌>>=◌, with_rest, next_as}

-- a choice that gave a value went this way
pub chosen : {A : Type 0} (b : Bool) (o : Option A) (x : A) → cond b o None ≡ Some x → (b ≡ true) × (o ≡ Some x)
chosen true o x e = (refl, e)
chosen false o x e = cc

-- where two steps gave a value, each gave one
pub bind_some : {A B : Type 0} (r : Option A) (f : A → Option B) (y : B) → (r >>= f) ≡ Some y → (x : A) × (r ≡ Some x) × (f x ≡ Some y)
bind_some (Some x) f y e = (x, refl, e)
bind_some None f y e = cc

pub some_same : {A : Type 0} (a b : A) → Some a ≡ Some b → a ≡ b
some_same a b e = cc

-- where the first word was read
pub next_some : {A : Type 0} (read : List ℕ → Option A) (words : List (List ℕ)) (x : A × List (List ℕ)) → next_as read words ≡ Some x
    → (word : List ℕ) × (words ≡ word ∷ x.1) × (read word ≡ Some x.0)
unfolding next_as
next_some read [] x e = cc
next_some {A} read (word ∷ words) x e =
    let at : (o : Option A) → with_rest words o ≡ Some x → (o ≡ Some x.0) × (words ≡ x.1) = elim [ None ↦ λ d. cc | Some y ↦ λ d. (cc, cc) ] in
    let p = at (read word) e in
    (word, ap (λ ws. word ∷ ws) p.1, p.0)
