use Rattle.std.proofs.Common.{ℕ, sym, subst}
use Rattle.quantum_space.specs.Regions.{Region', HasBlock, IsFirstByte}
use Rattle.quantum_space.proofs.Placing.{block_inside}
use Rattle.quantum_space.proofs.region.Region.byte.Goals as goal

pub byte-requires : goal.byte-requires
byte-requires c = (block_inside _ c.args.at c.self.invariant (subst (λ (v : Region'). HasBlock v c.args.at) (sym c.self.view_is) c.requires)).2

pub returns-clause-first : goal.returns-clause-first
returns-clause-first c =
    let b = block_inside _ c.args.at c.self.invariant (subst (λ (v : Region'). HasBlock v c.args.at) (sym c.self.view_is) c.requires) in
    subst (λ (x : ℕ). IsFirstByte x) (sym c.byte.ensures) (c.self.invariant.blocks c.args.at b.0 b.1).begins
