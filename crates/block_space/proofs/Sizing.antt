-- Sizes of blocks that are to come
use Rattle.std.proofs.Common.{◌≡◌, ℕ, zero, suc, List, [], ◌∷◌, ◌++◌, refl, get_or}

-- one more 0 at the end: no item is another one than before
pub push_zero : (xs : List ℕ) (k : ℕ) → get_or (xs ++ 0 ∷ []) k 0 ≡ get_or xs k 0
push_zero [] zero = refl
push_zero [] (suc k) = refl
push_zero (x ∷ xs) zero = refl
push_zero (x ∷ xs) (suc k) = push_zero xs k
