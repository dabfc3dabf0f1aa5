-- Runs of free quanta in the admin bytes
use Rattle.std.specs.Prelude.{◌≡◌, ℕ, ◌+◌, ◌<◌, ◌≤◌, List, get_or}

-- so many quanta are free from this one on
abbrev pub IsHole : List ℕ → ℕ → ℕ → Type 0
IsHole bytes from len = (i : ℕ) → i < len → get_or bytes (from + i) 0 ≡ 0

-- no hole of this length lies between these two quanta
abbrev pub NoHoleWithin : List ℕ → ℕ → ℕ → ℕ → Type 0
NoHoleWithin bytes len from end = (p : ℕ) → from ≤ p → p + len ≤ end → ¬ IsHole bytes p len

-- the first hole of this length between these two quanta
pub record IsFirstHole (bytes : List ℕ) (len from end found : ℕ) : Type 0 where
  pub begins : from ≤ found
  pub ends : found + len ≤ end
  pub free : IsHole bytes found len
  pub first : (p : ℕ) → from ≤ p → p < found → ¬ IsHole bytes p len
