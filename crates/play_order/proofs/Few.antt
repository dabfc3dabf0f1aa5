-- No more wait than may
use Rattle.std.proofs.Common.{◌≡◌, ℕ, ◌+◌, ◌≤◌, ◌==◌, Bool, true, false, cond, List, [], ◌∷◌, length, refl, subst, arith, eq-or-lt_of_le, inl, inr}
use Rattle.std.proofs.lemmas.Bool.{eqb-false}
use Rattle.play_order.specs.Places.{Played, Singles, latest_first, waiting, waiting_entries}
use Rattle.play_order.proofs.InPlace.{all_counted}

few : (pending t : ℕ) (ls : List Played) → 1 ≤ pending → waiting pending t ls ≤ pending
few pending t [] h = omega (arith, h)
few pending t (l ∷ ls) h = by (l.thread == t) l.local (waiting pending t ls) (few pending t ls h)
  where
    next : (n : ℕ) → n ≤ pending → (b : Bool) → (n == pending) ≡ b → cond b 1 (n + 1) ≤ pending
    next n k true e = h
    next n k false e = elim (eq-or-lt_of_le k) [
      | inl same ↦ absurd (eqb-false n pending e same)
      | inr less ↦ omega (arith, less)
    ]

    by : (c m : Bool) (n : ℕ) → n ≤ pending → cond c (cond m (cond (n == pending) 1 (n + 1)) 0) n ≤ pending
    by true true n k = next n k (n == pending) refl
    by true false n k = omega arith
    by false m n k = k

pub no_more : (pending t : ℕ) (lines : List Played) → 1 ≤ pending → Singles lines → length (waiting_entries pending t lines) ≤ pending
no_more pending t lines h s = subst (λ n. n ≤ pending) (all_counted pending lines s t) (few pending t (latest_first [] lines) h)
