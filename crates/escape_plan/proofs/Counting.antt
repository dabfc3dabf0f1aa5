-- Which of some words refer to a block, and which pairs of thread and block are theirs
use Rattle.std.proofs.Common.{◌≡◌, ℕ, ◌+◌, ◌<◌, ◌==◌, ◌&&◌, ◌||◌, zero, suc, Bool, true, false, cond, List, [], ◌∷◌, ◌++◌, Some, slice_get, refl, sym, ap, subst, ◌∙◌, arith}
use Rattle.std.specs.List.{list_any}
use Rattle.az_base.specs.declared.block_id.BlockId.{BlockId}
use Rattle.az_base.specs.declared.word.Word.{Word}
use Rattle.az_base.specs.declared.word.Word.TheVariants as word
use Rattle.az_base.specs.Ids.{same_id}
use Rattle.zone_model.specs.Holds.{words_to}
use Rattle.shared_heap.specs.Holding.{refers_to, is_off, pairs_in}
use Rattle.shared_heap.proofs.Unheld.{word_more}
use Rattle.escape_plan.specs.Moving.{refer_to}

-- the words that refer to a block
pub none_refers : (words : List Word) (q : BlockId) → refer_to words q ≡ false → words_to q words ≡ 0
none_refers [] q h = refl
none_refers (w ∷ words) q h = word_more q w words ∙ go (refers_to q w) h (none_refers words q)
  where
    go : (b : Bool) → (b || refer_to words q) ≡ false → (refer_to words q ≡ false → words_to q words ≡ 0) → cond b 1 0 + words_to q words ≡ 0
    go true h rest = cc
    go false h rest = let n : words_to q words ≡ 0 = rest h in omega (arith, n)

pub some_refers : (words : List Word) (q : BlockId) → refer_to words q ≡ true → 0 < words_to q words
some_refers [] q h = cc
some_refers (w ∷ words) q h = subst (λ n. 0 < n) (sym (word_more q w words)) (go (refers_to q w) h (some_refers words q))
  where
    go : (b : Bool) → (b || refer_to words q) ≡ true → (refer_to words q ≡ true → 0 < words_to q words) → 0 < cond b 1 0 + words_to q words
    go true h rest = omega arith
    go false h rest = let n : 0 < words_to q words = rest h in omega (arith, n)

-- a pair that isn't among those of another thread
pub other_pairs : (t u : ℕ) (words : List Word) (q : BlockId) → (t == u) ≡ false → is_off (pairs_in t words ++ []) u q ≡ false
other_pairs t u [] q h = refl
other_pairs t u (word.Null ∷ words) q h = other_pairs t u words q h
other_pairs t u (word.Number n ∷ words) q h = other_pairs t u words q h
other_pairs t u (word.Block b ∷ words) q h = ap (λ x. (x && same_id b q) || is_off (pairs_in t words ++ []) u q) h ∙ other_pairs t u words q h

-- one word more
pub refer_more : (words : List Word) (w : Word) (q : BlockId) → refer_to (words ++ w ∷ []) q ≡ (refer_to words q || refers_to q w)
refer_more [] w q = last (refers_to q w)
  where
    last : (b : Bool) → (b || false) ≡ b
    last true = refl
    last false = refl
refer_more (x ∷ words) w q = ap (λ b. refers_to q x || b) (refer_more words w q) ∙ grouped (refers_to q x) (refer_to words q) (refers_to q w)
  where
    grouped : (a b c : Bool) → (a || (b || c)) ≡ ((a || b) || c)
    grouped true b c = refl
    grouped false b c = refl

-- a word at a place is one of those that refer
pub refer_at : (words : List Word) (i : ℕ) (w : Word) (q : BlockId) → slice_get words i ≡ Some w → refers_to q w ≡ true → refer_to words q ≡ true
refer_at [] i w q h r = cc
refer_at (x ∷ words) zero w q h r = ap (λ b. b || refer_to words q) (ap (refers_to q) (same x w h) ∙ r)
  where
    same : (a b : Word) → Some a ≡ Some b → a ≡ b
    same a b h = cc
refer_at (x ∷ words) (suc i) w q h r = ap (λ b. refers_to q x || b) (refer_at words i w q h r) ∙ or_true (refers_to q x)
  where
    or_true : (b : Bool) → (b || true) ≡ true
    or_true true = refl
    or_true false = refl
