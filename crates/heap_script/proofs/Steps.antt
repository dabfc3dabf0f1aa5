-- Readers one after the other
use Rattle.std.proofs.Common.{◌≡◌, ℕ, ◌⊎◌, inl, inr, Bool, true, false, cond, List, [], ◌∷◌, Option, Some, None, Result, Ok, Err, refl, ap, ◌∙◌}
use Rattle.heap_script.specs.declared.cause.Cause.{Cause}
use Rattle.heap_script.specs.declared.cause.Cause.TheVariants.{TooManyArguments}
use Rattle.call_words.specs.Reading.Calls.{with_rest, next_as}
use Rattle.heap_script.specs.Reading.Scripts.{◌>>=◌, or_cause, no_more, whole}

-- a choice that gave a value went past the error
pub passed : {A : Type 0} (b : Bool) (cause : Cause) (r : Result A Cause) (x : A) → cond b (Err cause) r ≡ Ok x → (b ≡ false) × (r ≡ Ok x)
passed true cause r x e = cc
passed false cause r x e = (refl, e)

-- where two steps gave a value, each gave one
pub bind_ok : {A B E : Type 0} (r : Result A E) (f : A → Result B E) (y : B) → (r >>= f) ≡ Ok y → (x : A) × (r ≡ Ok x) × (f x ≡ Ok y)
bind_ok (Ok x) f y e = (x, refl, e)
bind_ok (Err d) f y e = cc

-- where two steps gave an error, one of them gave it
pub bind_err : {A B E : Type 0} (r : Result A E) (f : A → Result B E) (d : E) → (r >>= f) ≡ Err d → (◌≡◌ {A = Result A E} r (Err d)) ⊎ ((x : A) × (r ≡ Ok x) × (f x ≡ Err d))
bind_err {A} {B} {E} (Ok x) f d e = inr (x, refl, e)
bind_err {A} {B} {E} (Err c) f d e = inl (cc)

pub ok_same : {A E : Type 0} (a b : A) → ◌≡◌ {A = Result A E} (Ok a) (Ok b) → a ≡ b
ok_same a b e = cc

pub ok_is_not_err : {A E : Type 0} (x : A) (d : E) → ◌≡◌ {A = Result A E} (Ok x) (Err d) → ⊥
ok_is_not_err x d e = cc

pub some_same : {A : Type 0} (a b : A) → Some a ≡ Some b → a ≡ b
some_same a b e = cc

-- where the first word was read, or the cause was given
pub or_ok : {A : Type 0} (cause : Cause) (o : Option A) (x : A) → or_cause cause o ≡ Ok x → o ≡ Some x
or_ok cause None x e = cc
or_ok cause (Some y) x e = cc

pub or_err : {A : Type 0} (cause d : Cause) (o : Option A) → or_cause cause o ≡ Err d → (cause ≡ d) × (o ≡ None)
or_err cause d None e = (cc, refl)
or_err cause d (Some y) e = cc

pub next_some : {A : Type 0} (read : List ℕ → Option A) (words : List (List ℕ)) (x : A × List (List ℕ)) → next_as read words ≡ Some x
    → (word : List ℕ) × (words ≡ word ∷ x.1) × (read word ≡ Some x.0)
unfolding next_as
next_some read [] x e = cc
next_some {A} read (word ∷ words) x e =
    let at : (o : Option A) → with_rest words o ≡ Some x → (o ≡ Some x.0) × (words ≡ x.1) = elim [ None ↦ λ d. cc | Some y ↦ λ d. (cc, cc) ] in
    let p = at (read word) e in
    (word, ap (λ ws. word ∷ ws) p.1, p.0)

pub next_none : {A : Type 0} (read : List ℕ → Option A) (words : List (List ℕ)) → next_as read words ≡ None
    → (word : List ℕ) (others : List (List ℕ)) (x : A) → words ≡ word ∷ others → read word ≡ Some x → ⊥
unfolding next_as
next_none read [] e word others x at is = cc
next_none {A} read (w ∷ words) e word others x at is =
    let none : (o : Option A) → with_rest words o ≡ None → o ≡ None = elim [ None ↦ λ h. refl | Some y ↦ λ h. cc ] in
    let p = none (read w) e in
    cc

pub no_more_ok : (words : List (List ℕ)) (x : Unit {0}) → no_more words ≡ Ok x → words ≡ []
unfolding no_more
no_more_ok [] x e = refl
no_more_ok (word ∷ words) x e = cc

pub no_more_err : (words : List (List ℕ)) (d : Cause) → no_more words ≡ Err d → TooManyArguments ≡ d
unfolding no_more
no_more_err [] d e = cc
no_more_err (w ∷ words) d e = cc

-- some words are left
abbrev pub MoreLeft : List (List ℕ) → Type 0
MoreLeft left = (word : List ℕ) × (others : List (List ℕ)) × (left ≡ word ∷ others)

pub some_left : (words : List (List ℕ)) (d : Cause) → no_more words ≡ Err d → MoreLeft words
unfolding no_more
some_left [] d e = cc
some_left (word ∷ words) d e = (word, words, refl)

-- all was read, and no word was left
pub whole_ok : {A : Type 0} (read : Result (A × List (List ℕ)) Cause) (x : A) → whole read ≡ Ok x → read ≡ Ok (x, [])
whole_ok {A} read x e =
    let a = bind_ok read _ x e in
    let b = bind_ok (no_more a.0.1) _ x a.2 in
    a.1 ∙ ap {B = Result (A × List (List ℕ)) Cause} (λ y. Ok (y, a.0.1)) (ok_same _ x b.2) ∙ ap {B = Result (A × List (List ℕ)) Cause} (λ left. Ok (x, left)) (no_more_ok a.0.1 b.0 b.1)

-- nothing was read, or a word was left
pub whole_err : {A : Type 0} (read : Result (A × List (List ℕ)) Cause) (d : Cause) → whole read ≡ Err d
    → (read ≡ Err d) ⊎ ((TooManyArguments ≡ d) × (x : A) × (word : List ℕ) × (others : List (List ℕ)) × (read ≡ Ok (x, word ∷ others)))
whole_err {A} read d e =
    elim (bind_err read _ d e) [
      | inl h ↦ inl h
      | inr a ↦
          elim (bind_err (no_more a.0.1) _ d a.2) [
            | inl h ↦
                (let m = some_left a.0.1 d h in
                inr (no_more_err a.0.1 d h, a.0.0, m.0, m.1, a.1 ∙ ap {B = Result (A × List (List ℕ)) Cause} (λ left. Ok (a.0.0, left)) m.2))
            | inr b ↦ absurd (ok_is_not_err _ d b.2)
          ]
    ]
