-- Bits and digits of a byte, found for each byte
use Rattle.std.proofs.Common.{◌≡◌, ◌<◌, ◌/◌, ◌%◌, ◌==◌, inl, inr, ℕ, zero, suc, Bool, true, false, ◌&&◌, refl, subst, arith}
use Rattle.std.specs.Int.RustNames.{bit_and}
use Rattle.quantum_space.proofs.Runs.{below_or}

all_below : (ℕ → Bool) → ℕ → Bool
all_below p zero = true
all_below p (suc n) = p n && all_below p n

both : (a b : Bool) → (a && b) ≡ true → (a ≡ true) × (b ≡ true)
both true b e = (refl, e)
both false b e = cc

each_below : (p : ℕ → Bool) (n k : ℕ) → all_below p n ≡ true → k < n → p k ≡ true
unfolding all_below
each_below p zero k e l = absurd (omega (arith, l))
each_below p (suc n) k e l = elim (below_or k n) [
  | inl b ↦ each_below p n k (both (p n) (all_below p n) e).1 b
  | inr b ↦ (let s : n ≡ k = omega (arith, b, l) in subst (λ j. p j ≡ true) s (both (p n) (all_below p n) e).0)
]

abbrev alike : Bool → Bool → Bool
alike true true = true
alike true false = false
alike false true = false
alike false false = true

are_alike : (a b : Bool) → alike a b ≡ true → a ≡ b
are_alike true true e = refl
are_alike true false e = cc
are_alike false true e = cc
are_alike false false e = refl

pub bit_5 : (b : ℕ) → b < 256 → (bit_and b 32 == 32) ≡ ((b / 32) % 2 == 1)
unfolding all_below
bit_5 b l = are_alike (bit_and b 32 == 32) ((b / 32) % 2 == 1) (each_below (λ k. alike (bit_and k 32 == 32) ((k / 32) % 2 == 1)) 256 b refl l)

pub bit_6 : (b : ℕ) → b < 256 → (bit_and b 64 == 64) ≡ ((b / 64) % 2 == 1)
unfolding all_below
bit_6 b l = are_alike (bit_and b 64 == 64) ((b / 64) % 2 == 1) (each_below (λ k. alike (bit_and k 64 == 64) ((k / 64) % 2 == 1)) 256 b refl l)
