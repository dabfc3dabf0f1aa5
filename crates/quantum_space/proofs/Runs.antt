-- Runs of free quanta, found one by one
use Rattle.std.proofs.Common.{◌≡◌, ◌≢◌, ◌⊎◌, inl, inr, ℕ, zero, suc, ◌+◌, ◌-◌, ◌<◌, ◌≤◌, List, subst, arith, get_or}
use Rattle.quantum_space.specs.Holes.{IsHole}

pub below_or : (a b : ℕ) → (a < b) ⊎ (b ≤ a)
below_or a zero = inr (omega arith)
below_or zero (suc b) = inl (omega arith)
below_or (suc a) (suc b) = elim (below_or a b) [ inl l ↦ inl (omega (arith, l)) | inr l ↦ inr (omega (arith, l)) ]

-- a hole has each quantum between its ends
pub free_at : (bytes : List ℕ) (p len k : ℕ) → IsHole bytes p len → p ≤ k → k < p + len → get_or bytes k 0 ≡ 0
free_at bytes p len k h l m = subst (λ (j : ℕ). get_or bytes j 0 ≡ 0) (let e : p + (k - p) ≡ k = omega (arith, l) in e) (h (k - p) (omega (arith, l, m)))

-- a quantum in use: no hole begins up to it
pub none_up_to : (bytes : List ℕ) (len from begin at : ℕ) → ((p : ℕ) → from ≤ p → p < begin → ¬ IsHole bytes p len) → at < begin + len → get_or bytes at 0 ≢ 0
    → (p : ℕ) → from ≤ p → p < at + 1 → ¬ IsHole bytes p len
none_up_to bytes len from begin at none l n p f b h = elim (below_or p begin) [
  | inl k ↦ none p f k h
  | inr k ↦ n (free_at bytes p len at h (omega (arith, b)) (omega (arith, k, l)))
]

-- one free quantum more
pub free_more : (bytes : List ℕ) (begin at : ℕ) → ((q : ℕ) → begin ≤ q → q < at → get_or bytes q 0 ≡ 0) → get_or bytes at 0 ≡ 0 → (q : ℕ) → begin ≤ q → q < at + 1 → get_or bytes q 0 ≡ 0
free_more bytes begin at free e q l m = elim (below_or q at) [ inl k ↦ free q l k | inr k ↦ subst (λ (j : ℕ). get_or bytes j 0 ≡ 0) (let s : at ≡ q = omega (arith, k, m) in s) e ]

-- up to the end
pub none_at_all : (bytes : List ℕ) (len from begin end : ℕ) → ((p : ℕ) → from ≤ p → p < begin → ¬ IsHole bytes p len) → end < begin + len → (p : ℕ) → from ≤ p → p + len ≤ end → ¬ IsHole bytes p len
none_at_all bytes len from begin end none l p f e h = elim (below_or p begin) [ inl k ↦ none p f k h | inr k ↦ absurd (omega (arith, k, l, e)) ]
