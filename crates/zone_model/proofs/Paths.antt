-- Paths of edges
use Rattle.std.proofs.Common.{List, [], ◌∷◌, ◌++◌, refl, sym, subst}
use Rattle.az_base.specs.declared.block_id.BlockId.{BlockId}
use Rattle.zone_model.specs.State.{Zone}
use Rattle.zone_model.specs.Reach.{Edge, Path, ReachedFrom}

-- a path, and one edge more
pub path_more : (E : BlockId → BlockId → Type 0) (a : BlockId) (steps : List BlockId) (b c : BlockId) → Path E a steps b → E b c → Path E a (steps ++ c ∷ []) c
path_more E a [] b c p e = (subst (λ x. E x c) (sym p) e, refl)
path_more E a (d ∷ steps) b c p e = (p.0, path_more E d steps b c p.1 e)

-- what a reached block refers to is reached
pub reached_more : {C : Type 0} (z : Zone C) (First : BlockId → Type 0) (a b : BlockId) → ReachedFrom z First a → Edge z a b → ReachedFrom z First b
reached_more z First a b r e = (r.0, r.1, (r.2.0 ++ b ∷ [], path_more (Edge z) r.0 r.2.0 a b r.2.1 e))

-- a path along edges that were there too
pub path_within : (E F : BlockId → BlockId → Type 0) → ((a b : BlockId) → E a b → F a b) → (a : BlockId) (steps : List BlockId) (b : BlockId) → Path E a steps b → Path F a steps b
path_within E F was a [] b p = p
path_within E F was a (x ∷ more) b p = (was a x p.0, path_within E F was x more b p.1)
