use Rattle.std.proofs.Common.{sym, subst}
use Rattle.quantum_space.specs.Regions.{Region', HasBlock}
use Rattle.quantum_space.proofs.Placing.{block_inside, region_noted}
use Rattle.quantum_space.proofs.region.Region.set_byte.Goals as goal

pub set-requires-clause-there : goal.set-requires-clause-there
set-requires-clause-there c = (block_inside _ c.args.at c.self.invariant (subst (λ (v : Region'). HasBlock v c.args.at) (sym c.self.view_is) c.requires.block)).2

pub invariant_of-self : goal.invariant_of-self
invariant_of-self c =
    let b = block_inside _ c.args.at c.self.invariant (subst (λ (v : Region'). HasBlock v c.args.at) (sym c.self.view_is) c.requires.block) in
    rw c.set.ensures (region_noted _ c.args.at c.args.byte b.0 c.self.invariant b.1 c.requires.first)
