use Rattle.std.proofs.Common.{◌≡◌, ◌+◌, ◌*◌, ◌<◌, ◌∙◌, ℕ, length, sym, subst, ap, arith, get_or}
use Rattle.std.proofs.lemmas.List.{get_or_read}
use Rattle.quantum_space.specs.declared.placed.PlacedWord.TheVariants as word
use Rattle.quantum_space.specs.Regions.{Region', HasWord}
use Rattle.quantum_space.proofs.Placing.{word_inside}
use Rattle.quantum_space.proofs.region.Region.word_by.Goals as goal

pub overflow_add-at : goal.overflow_add-at
overflow_add-at c =
    let k = word_inside _ c.args.at c.args.i c.self.invariant (subst (λ (v : Region'). HasWord v c.args.at c.args.i) (sym c.self.view_is) c.requires.word) in
    let w : c.args.width ≡ c.self.inside.width = c.requires.width ∙ ap (λ (v : Region'). v.width) (sym c.self.view_is) in
    let m : c.args.at * c.args.width ≡ c.args.at * c.self.inside.width = ap (λ n. c.args.at * n) w in
    omega (arith, k, m, c.self.inside.words.ok.0, c.self.inside.words.ok.1, c.self.inside.words.small)

pub index-requires : goal.index-requires
index-requires c =
    let k = word_inside _ c.args.at c.args.i c.self.invariant (subst (λ (v : Region'). HasWord v c.args.at c.args.i) (sym c.self.view_is) c.requires.word) in
    let w : c.args.width ≡ c.self.inside.width = c.requires.width ∙ ap (λ (v : Region'). v.width) (sym c.self.view_is) in
    let m : c.args.at * c.args.width ≡ c.args.at * c.self.inside.width = ap (λ n. c.args.at * n) w in
    omega (arith, k, m, c.self.inside.words.ok.0)

pub returns : goal.returns
returns c =
    let k = word_inside _ c.args.at c.args.i c.self.invariant (subst (λ (v : Region'). HasWord v c.args.at c.args.i) (sym c.self.view_is) c.requires.word) in
    let w : c.args.width ≡ c.self.inside.width = c.requires.width ∙ ap (λ (v : Region'). v.width) (sym c.self.view_is) in
    let m : c.args.at * c.args.width ≡ c.args.at * c.self.inside.width = ap (λ n. c.args.at * n) w in
    let here : c.args.at * c.args.width + c.args.i < length c.self.inside.words.items = omega (arith, k, m) in
    subst (λ (v : Region'). c.index.result.now ≡ get_or v.words (c.args.at * v.width + c.args.i) word.Null) c.self.view_is
    (subst (λ (n : ℕ). c.index.result.now ≡ get_or c.self.inside.words.items (c.args.at * n + c.args.i) word.Null) w
    (get_or_read c.self.inside.words.items _ _ here c.index.ensures word.Null))
