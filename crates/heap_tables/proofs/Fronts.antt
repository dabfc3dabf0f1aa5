-- The front of a list
use Rattle.std.proofs.Common.{◌≡◌, ℕ, zero, suc, ◌<◌, nat_lt, List, [], ◌∷◌, Some, None, take, drop, slice_get, refl, sym, ap, ◌∙◌, arith, IsTrue, ◌+◌}
use Rattle.std.proofs.lemmas.Bool.Decides.{nat_tests}
use Rattle.az_base.specs.declared.block_id.BlockId.{BlockId}
use Rattle.quantum_space.specs.Shapes.{Has, Once}
use Rattle.block_table.proofs.Fronts.{in_whole as whole_has}

pub tests_lt : (n m : ℕ) → IsTrue (nat_lt n m) → n < m
tests_lt n m t = grind (arith, nat_tests)

pub lt_tests : (n m : ℕ) → n < m → IsTrue (nat_lt n m)
lt_tests n m l = grind (arith, nat_tests)

pub in_whole : (xs : List BlockId) (m : ℕ) (b : BlockId) → Has (take m xs) b → Has xs b
in_whole xs m b h = whole_has xs m b h

pub once_take : (xs : List BlockId) (m : ℕ) → Once xs → Once (take m xs)
once_take [] zero o = tt
once_take [] (suc m) o = tt
once_take (x ∷ xs) zero o = tt
once_take (x ∷ xs) (suc m) o = ((λ h. o.0 (in_whole xs m x h)), once_take xs m o.1)

-- the n-th of a list, from what is left there
pub here_is : (xs : List BlockId) (n : ℕ) (b : BlockId) (rest : List BlockId) → drop n xs ≡ b ∷ rest → Some b ≡ slice_get xs n
here_is [] zero b rest e = cc
here_is [] (suc n) b rest e = cc
here_is (x ∷ xs) zero b rest e = let same : x ≡ b = cc in ap Some (sym same)
here_is (x ∷ xs) (suc n) b rest e = here_is xs n b rest e

left_in : (xs : List BlockId) (n : ℕ) (b : BlockId) (rest : List BlockId) → drop n xs ≡ b ∷ rest → rest ≡ drop (suc n) xs
left_in [] zero b rest e = cc
left_in [] (suc n) b rest e = cc
left_in (x ∷ xs) zero b rest e = let same : xs ≡ rest = cc in sym same
left_in (x ∷ xs) (suc n) b rest e = left_in xs n b rest e

pub left_is : (xs : List BlockId) (n : ℕ) (b : BlockId) (rest : List BlockId) → drop n xs ≡ b ∷ rest → rest ≡ drop (n + 1) xs
left_is xs n b rest e = let one : suc n ≡ n + 1 = omega arith in left_in xs n b rest e ∙ ap (λ k. drop k xs) one

pub none_is : (xs : List BlockId) (n m : ℕ) → drop n xs ≡ [] → n < m + 1 → None ≡ slice_get xs m
none_is [] n m e l = refl
none_is (x ∷ xs) zero m e l = cc
none_is (x ∷ xs) (suc n) zero e l = absurd (omega (arith, l))
none_is (x ∷ xs) (suc n) (suc m) e l = none_is xs n m e (omega (arith, l))
