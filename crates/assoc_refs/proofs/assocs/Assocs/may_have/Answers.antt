use Rattle.std.proofs.Common.{◌≡◌, ap, ◌∙◌, sym, arith}
use Rattle.assoc_refs.specs.Table.{Associated, pairs_of}
use Rattle.assoc_refs.proofs.Flat.{none-paired}
use Rattle.assoc_refs.proofs.Keeping.{unmet}
use Rattle.assoc_refs.proofs.assocs.Assocs.may_have.Goals as goal

pub returns-then-self-gt0-clause-none : goal.returns-then-self-gt0-clause-none
returns-then-self-gt0-clause-none c = λ e.
    ap (λ (a : Associated). pairs_of a.pairs c.args.object) (sym c.self.view_is)
    ∙ unmet c.self.inside.lists c.self.inside.blank c.self.inside.total c.self.inside.ready c.self.invariant c.args.object (c.has.ensures e)

pub returns-else-self-gt0-clause-none : goal.returns-else-self-gt0-clause-none
returns-else-self-gt0-clause-none c = λ _.
    let nothing : c.self.inside.total ≡ 0 = omega (arith, c.if-self-gt0.false) in
    ap (λ (a : Associated). pairs_of a.pairs c.args.object) (sym c.self.view_is)
    ∙ none-paired c.self.inside.lists.entries c.self.invariant.once c.args.object (sym c.self.invariant.total ∙ nothing)
