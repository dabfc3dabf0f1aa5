-- The front of a list of blocks, and one shade that is set
use Rattle.std.proofs.Common.{◌≡◌, ℕ, zero, suc, ◌<◌, List, [], ◌∷◌, Some, take, slice_get, ap, arith, inl, inr}
use Rattle.az_base.specs.declared.block_id.BlockId.{BlockId}
use Rattle.quantum_space.specs.Shapes.{Has}

pub take_has : (xs : List BlockId) (m n : ℕ) (b : BlockId) → slice_get xs n ≡ Some b → n < m → Has (take m xs) b
take_has [] m n b e l = cc
take_has (x ∷ xs) zero n b e l = absurd (omega (arith, l))
take_has (x ∷ xs) (suc m) zero b e l = let same : x ≡ b = cc in inl same
take_has (x ∷ xs) (suc m) (suc n) b e l = inr (take_has xs m n b e (omega (arith, l)))

pub has_take : (xs : List BlockId) (m : ℕ) (b : BlockId) → Has (take m xs) b → (k : ℕ) × (k < m) × (slice_get xs k ≡ Some b)
has_take [] zero b h = absurd h
has_take [] (suc m) b h = absurd h
has_take (x ∷ xs) zero b h = absurd h
has_take (x ∷ xs) (suc m) b (inl e) = (0, omega arith, ap Some e)
has_take (x ∷ xs) (suc m) b (inr h) = let k = has_take xs m b h in (suc k.0, omega (arith, k.1), k.2)

pub in_whole : (xs : List BlockId) (m : ℕ) (b : BlockId) → Has (take m xs) b → Has xs b
in_whole [] zero b h = h
in_whole [] (suc m) b h = h
in_whole (x ∷ xs) zero b h = absurd h
in_whole (x ∷ xs) (suc m) b (inl e) = inl e
in_whole (x ∷ xs) (suc m) b (inr h) = inr (in_whole xs m b h)
