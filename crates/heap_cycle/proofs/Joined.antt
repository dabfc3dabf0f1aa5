-- What stands in the front of a list, behind it, and in two lists together
use Rattle.std.proofs.Common.{◌≤◌, ◌++◌, ℕ, zero, suc, List, [], ◌∷◌, length, take, drop, ◌⊎◌, inl, inr, arith}
use Rattle.az_base.specs.declared.block_id.BlockId.{BlockId}
use Rattle.quantum_space.specs.Shapes.{Has}
use Rattle.quantum_space.proofs.Lists.{at_end, in_front}

-- what is in the front of a list is in it
pub front_has : (n : ℕ) (xs : List BlockId) (b : BlockId) → Has (take n xs) b → Has xs b
front_has zero xs b h = absurd h
front_has (suc n) [] b h = absurd h
front_has (suc n) (x ∷ xs) b (inl e) = inl e
front_has (suc n) (x ∷ xs) b (inr h) = inr (front_has n xs b h)

-- what stands behind the front of a list stands there too with one more at its end
pub behind_more : (n : ℕ) (xs : List BlockId) (y b : BlockId) → Has (drop n xs) b → Has (drop n (xs ++ y ∷ [])) b
behind_more zero xs y b h = in_front xs (y ∷ []) b h
behind_more (suc n) [] y b h = absurd h
behind_more (suc n) (x ∷ xs) y b h = behind_more n xs y b h

-- and so does the new one
pub behind_last : (n : ℕ) (xs : List BlockId) (y : BlockId) → n ≤ length xs → Has (drop n (xs ++ y ∷ [])) y
behind_last zero xs y h = at_end xs y
behind_last (suc n) [] y h = absurd (omega (arith, h))
behind_last (suc n) (x ∷ xs) y h = behind_last n xs y (omega (arith, h))

-- behind a list another may stand that has all that stood there
pub in_both : (xs ys zs : List BlockId) (b : BlockId) → (Has ys b → Has zs b) → Has (xs ++ ys) b → Has (xs ++ zs) b
in_both [] ys zs b more h = more h
in_both (x ∷ xs) ys zs b more (inl e) = inl e
in_both (x ∷ xs) ys zs b more (inr h) = inr (in_both xs ys zs b more h)

-- what is in the second of two lists is in both together
pub at_back : (xs ys : List BlockId) (b : BlockId) → Has ys b → Has (xs ++ ys) b
at_back [] ys b h = h
at_back (x ∷ xs) ys b h = inr (at_back xs ys b h)

-- what is in two lists together is in one of them
pub in_either : (xs ys : List BlockId) (b : BlockId) → Has (xs ++ ys) b → Has xs b ⊎ Has ys b
in_either [] ys b h = inr h
in_either (x ∷ xs) ys b (inl e) = inl (inl e)
in_either (x ∷ xs) ys b (inr h) = elim (in_either xs ys b h) [ inl k ↦ inl (inr k) | inr k ↦ inr k ]
