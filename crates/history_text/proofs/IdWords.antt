-- Ids one after the other, as a loop reads them
use Rattle.std.proofs.Common.{◌≡◌, ℕ, ◌<◌, true, false, List, [], ◌∷◌, ◌++◌, length, Option, Some, None, refl, sym, ap, ◌∙◌, append_assoc, append-nil, codes, arith}
use Rattle.std.specs.Str.{bytes_eq}
use Rattle.az_base.specs.declared.block_id.BlockId.{BlockId}
use Rattle.call_words.specs.Reading.Words.{block_of}
use Rattle.call_words.specs.Reading.Calls.{◌>>=◌, with_rest, next_as}
use Rattle.history_text.specs.Reading.{onto_ids, ids_at}

-- these ids, and those that are read after them
abbrev pub with_ids : List BlockId → Option (List BlockId × List (List ℕ)) → Option (List BlockId × List (List ℕ))
with_ids front read = read >>= λ x. Some (front ++ x.0, x.1)

pub nothing_front : (read : Option (List BlockId × List (List ℕ))) → with_ids [] read ≡ read
nothing_front (Some x) = refl
nothing_front None = refl

regroup : (front : List BlockId) (id : BlockId) (read : Option (List BlockId × List (List ℕ))) → with_ids front (onto_ids (Some id) read) ≡ with_ids (front ++ id ∷ []) read
regroup front id (Some x) = ap {B = Option (List BlockId × List (List ℕ))} (λ xs. Some (xs, x.1)) (sym (append_assoc front (id ∷ []) x.0))
regroup front id None = refl

-- the first word, as it was read
first_is : (word : List ℕ) (left : List (List ℕ)) (x : BlockId × List (List ℕ)) → next_as block_of (word ∷ left) ≡ Some x → (block_of word ≡ Some x.0) × (left ≡ x.1)
unfolding next_as
first_is word left x e =
    let at : (o : Option BlockId) → with_rest left o ≡ Some x → (o ≡ Some x.0) × (left ≡ x.1) = elim [ None ↦ λ d. cc | Some y ↦ λ d. (cc, cc) ] in
    at (block_of word) e

first_is_none : (word : List ℕ) (left : List (List ℕ)) → next_as block_of (word ∷ left) ≡ None → block_of word ≡ None
unfolding next_as
first_is_none word left e =
    let at : (o : Option BlockId) → with_rest left o ≡ None → o ≡ None = elim [ None ↦ λ d. refl | Some y ↦ λ d. cc ] in
    at (block_of word) e

-- an id more was read
pub grows : (front : List BlockId) (here left new : List (List ℕ)) (word : List ℕ) (id : BlockId) (whole : Option (List BlockId × List (List ℕ))) → here ≡ word ∷ left → bytes_eq word (codes "kept") ≡ false
    → next_as block_of here ≡ Some (id, new) → with_ids front (ids_at here) ≡ whole → with_ids (front ++ id ∷ []) (ids_at new) ≡ whole
grows front here left new word id whole cut other read so_far =
    let p = first_is word left (id, new) (sym (ap (next_as block_of) cut) ∙ read) in
    sym (regroup front id (ids_at new)) ∙ ap (λ ws. with_ids front (onto_ids (Some id) (ids_at ws))) (sym p.1)
    ∙ ap (λ o. with_ids front (onto_ids o (ids_at left))) (sym p.0) ∙ sym (rw other at (ap (λ ws. with_ids front (ids_at ws)) cut)) ∙ so_far

pub shrinks : (here left new : List (List ℕ)) (word : List ℕ) (id : BlockId) → here ≡ word ∷ left → next_as block_of here ≡ Some (id, new) → length new < length here
shrinks here left new word id cut read =
    let p = first_is word left (id, new) (sym (ap (next_as block_of) cut) ∙ read) in
    rw (cut, ← p.1) (omega arith)

pub fails : (front : List BlockId) (here left : List (List ℕ)) (word : List ℕ) (whole : Option (List BlockId × List (List ℕ))) → here ≡ word ∷ left → bytes_eq word (codes "kept") ≡ false
    → next_as block_of here ≡ None → with_ids front (ids_at here) ≡ whole → whole ≡ None
fails front here left word whole cut other read so_far =
    let p = first_is_none word left (sym (ap (next_as block_of) cut) ∙ read) in
    sym so_far ∙ ap (λ ws. with_ids front (ids_at ws)) cut ∙ rw (other, p) refl

pub stops : (front : List BlockId) (here left : List (List ℕ)) (word : List ℕ) (whole : Option (List BlockId × List (List ℕ))) → here ≡ word ∷ left → bytes_eq word (codes "kept") ≡ true
    → with_ids front (ids_at here) ≡ whole → whole ≡ Some (front, here)
stops front here left word whole cut kept so_far =
    sym so_far ∙ ap (λ ws. with_ids front (ids_at ws)) cut ∙ rw (kept, append-nil) (ap {B = Option (List BlockId × List (List ℕ))} (λ ws. Some (front, ws)) (sym cut))

pub ends : (front : List BlockId) (here : List (List ℕ)) (whole : Option (List BlockId × List (List ℕ))) → here ≡ [] → with_ids front (ids_at here) ≡ whole → whole ≡ Some (front, here)
ends front here whole cut so_far =
    sym so_far ∙ ap (λ ws. with_ids front (ids_at ws)) cut ∙ rw append-nil (ap {B = Option (List BlockId × List (List ℕ))} (λ ws. Some (front, ws)) (sym cut))
