use Rattle.std.proofs.Common.{sym, subst, arith}
use Rattle.quantum_space.specs.Regions.{Region', HasWord}
use Rattle.quantum_space.proofs.Placing.{word_inside, region_written}
use Rattle.quantum_space.proofs.region.Region.set_word.Goals as goal

pub overflow_add-at : goal.overflow_add-at
overflow_add-at c =
    let k = word_inside _ c.args.at c.args.i c.self.invariant (subst (λ (v : Region'). HasWord v c.args.at c.args.i) (sym c.self.view_is) c.requires) in
    omega (arith, k, c.self.inside.words.ok.0, c.self.inside.words.ok.1, c.self.inside.words.small)

pub index_mut-requires : goal.index_mut-requires
index_mut-requires c =
    let k = word_inside _ c.args.at c.args.i c.self.invariant (subst (λ (v : Region'). HasWord v c.args.at c.args.i) (sym c.self.view_is) c.requires) in
    omega (arith, k, c.self.inside.words.ok.0)

pub invariant_of-self : goal.invariant_of-self
invariant_of-self c = region_written _ c.args.at c.args.i c.args.word c.self.invariant
