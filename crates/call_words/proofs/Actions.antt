-- Actions one after the other, as a loop reads them
use Rattle.std.proofs.Common.{◌≡◌, ℕ, suc, ◌-◌, ◌<◌, ◌+◌, List, [], ◌∷◌, ◌++◌, Option, Some, None, Err, refl, sym, ap, ◌∙◌, append_assoc, append-nil, arith}
use Rattle.az_base.specs.declared.action.Action.{Action}
use Rattle.call_words.specs.declared.argument_err.ArgumentErr.{ArgumentErr}
use Rattle.call_words.specs.declared.argument_err.ArgumentErr.TheVariants as errors
use Rattle.call_words.specs.Reading.Calls.{◌>>=◌, Takes, next_action, actions_at}

-- these actions, and those that are read after them
abbrev pub with_actions : List Action → Option (List Action × List (List ℕ)) → Option (List Action × List (List ℕ))
with_actions front read = read >>= λ x. Some (front ++ x.0, x.1)

regroup : (front : List Action) (first : Action) (read : Option (List Action × List (List ℕ)))
    → with_actions front (read >>= λ more. Some (first ∷ more.0, more.1)) ≡ with_actions (front ++ first ∷ []) read
regroup front first (Some x) = ap {B = Option (List Action × List (List ℕ))} (λ xs. Some (xs, x.1)) (sym (append_assoc front (first ∷ []) x.0))
regroup front first None = refl

one_more : (front : List Action) (room : ℕ) (words left : List (List ℕ)) (first : Action) → next_action words ≡ Some (Some first, left)
    → with_actions front (actions_at (suc room) words) ≡ with_actions (front ++ first ∷ []) (actions_at room left)
unfolding actions_at
one_more front room words left first e = rw e (regroup front first (actions_at room left))

no_more_come : (front : List Action) (room : ℕ) (words left : List (List ℕ)) → next_action words ≡ Some (None, left) → with_actions front (actions_at (suc room) words) ≡ Some (front, left)
unfolding actions_at
no_more_come front room words left e = rw e (ap {B = Option (List Action × List (List ℕ))} (λ xs. Some (xs, left)) (append-nil front))

is_wrong : (front : List Action) (room : ℕ) (words : List (List ℕ)) → next_action words ≡ None → with_actions front (actions_at (suc room) words) ≡ None
unfolding actions_at
is_wrong front room words e = rw e refl

room_left : (most used : ℕ) → used < most → most - used ≡ suc (most - (used + 1))
room_left most used h = omega arith

-- the same where so many were read
pub grows : (front : List Action) (most used : ℕ) (words left : List (List ℕ)) (first : Action) (whole : Option (List Action × List (List ℕ))) → used < most → next_action words ≡ Some (Some first, left)
    → with_actions front (actions_at (most - used) words) ≡ whole → with_actions (front ++ first ∷ []) (actions_at (most - (used + 1)) left) ≡ whole
grows front most used words left first whole h e so_far =
    sym (one_more front (most - (used + 1)) words left first e) ∙ ap (λ n. with_actions front (actions_at n words)) (sym (room_left most used h)) ∙ so_far

pub ends : (front : List Action) (most used : ℕ) (words left : List (List ℕ)) (whole : Option (List Action × List (List ℕ))) → used < most → next_action words ≡ Some (None, left)
    → with_actions front (actions_at (most - used) words) ≡ whole → whole ≡ Some (front, left)
ends front most used words left whole h e so_far = sym so_far ∙ ap (λ n. with_actions front (actions_at n words)) (room_left most used h) ∙ no_more_come front (most - (used + 1)) words left e

fails : (front : List Action) (most used : ℕ) (words : List (List ℕ)) (whole : Option (List Action × List (List ℕ))) → used < most → next_action words ≡ None
    → with_actions front (actions_at (most - used) words) ≡ whole → whole ≡ None
fails front most used words whole h e so_far = sym so_far ∙ ap (λ n. with_actions front (actions_at n words)) (room_left most used h) ∙ is_wrong front (most - (used + 1)) words e

pub stops : (front : List Action) (most used : ℕ) (words left : List (List ℕ)) (err : ArgumentErr) (whole : Option (List Action × List (List ℕ))) → used < most
    → Takes {X = Option Action} (Err err) left (next_action words) → with_actions front (actions_at (most - used) words) ≡ whole → Takes {X = List Action} (Err err) left whole
stops front most used words left errors.Wrong whole h e so_far = fails front most used words whole h e so_far
stops front most used words left errors.NoMemory whole h e so_far = tt

pub is_full : (front : List Action) (n : ℕ) (words : List (List ℕ)) (whole : Option (List Action × List (List ℕ))) → n ≡ 0 → with_actions front (actions_at n words) ≡ whole → whole ≡ Some (front, words)
unfolding actions_at
is_full front n words whole none so_far =
    sym so_far ∙ ap (λ m. with_actions front (actions_at m words)) none ∙ ap {B = Option (List Action × List (List ℕ))} (λ xs. Some (xs, words)) (append-nil front)

nothing_front : (read : Option (List Action × List (List ℕ))) → with_actions [] read ≡ read
nothing_front (Some x) = refl
nothing_front None = refl

pub at_first : (most : ℕ) (words : List (List ℕ)) → with_actions [] (actions_at (most - 0) words) ≡ actions_at most words
at_first most words =
    let all : most - 0 ≡ most = omega arith in
    ap (λ n. with_actions [] (actions_at n words)) all ∙ nothing_front (actions_at most words)
