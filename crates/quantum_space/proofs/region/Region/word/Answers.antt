use Rattle.std.proofs.Common.{◌≡◌, ◌+◌, ◌*◌, sym, subst, arith, get_or}
use Rattle.std.proofs.lemmas.List.{get_or_read}
use Rattle.quantum_space.specs.declared.placed.PlacedWord.TheVariants as word
use Rattle.quantum_space.specs.Regions.{Region', HasWord}
use Rattle.quantum_space.proofs.Placing.{word_inside}
use Rattle.quantum_space.proofs.region.Region.word.Goals as goal

pub overflow_add-at : goal.overflow_add-at
overflow_add-at c =
    let k = word_inside _ c.args.at c.args.i c.self.invariant (subst (λ (v : Region'). HasWord v c.args.at c.args.i) (sym c.self.view_is) c.requires) in
    omega (arith, k, c.self.inside.words.ok.0, c.self.inside.words.ok.1, c.self.inside.words.small)

pub index-requires : goal.index-requires
index-requires c =
    let k = word_inside _ c.args.at c.args.i c.self.invariant (subst (λ (v : Region'). HasWord v c.args.at c.args.i) (sym c.self.view_is) c.requires) in
    omega (arith, k, c.self.inside.words.ok.0)

pub returns : goal.returns
returns c =
    let k = word_inside _ c.args.at c.args.i c.self.invariant (subst (λ (v : Region'). HasWord v c.args.at c.args.i) (sym c.self.view_is) c.requires) in
    subst (λ (v : Region'). c.index.result.now ≡ get_or v.words (c.args.at * v.width + c.args.i) word.Null) c.self.view_is (get_or_read c.self.inside.words.items _ _ k c.index.ensures word.Null)
