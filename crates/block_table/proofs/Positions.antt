-- Blocks by position
use Rattle.std.proofs.Common.{◌≡◌, ℕ, zero, suc, List, [], ◌∷◌, Option, Some, None, slice_get, refl, sym, ap, subst}
use Rattle.az_base.specs.declared.block_id.BlockId.{BlockId}
use Rattle.quantum_space.specs.Shapes.{Has, Once}
use Rattle.quantum_space.proofs.Lists.{has_at}

-- a list without repeats has a block at one place
pub one_place : (xs : List BlockId) (n k : ℕ) (b : BlockId) → Once xs → slice_get xs n ≡ Some b → slice_get xs k ≡ Some b → k ≡ n
one_place [] n k b o e f = cc
one_place (x ∷ xs) zero zero b o e f = refl
one_place (x ∷ xs) zero (suc k) b o e f = let same : x ≡ b = ap (λ (y : Option BlockId). elim y [ None ↦ x | Some z ↦ z ]) e in absurd (o.0 (subst (Has xs) (sym same) (has_at xs k b f)))
one_place (x ∷ xs) (suc n) zero b o e f = let same : x ≡ b = ap (λ (y : Option BlockId). elim y [ None ↦ x | Some z ↦ z ]) f in absurd (o.0 (subst (Has xs) (sym same) (has_at xs n b e)))
one_place (x ∷ xs) (suc n) (suc k) b o e f = ap suc (one_place xs n k b o.1 e f)
