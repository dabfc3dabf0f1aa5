use Rattle.std.proofs.Common.{ap, ◌∙◌, sym, Some, None, slice_get}
use Rattle.assoc_refs.specs.Table.{Associated, pairs_of}
use Rattle.assoc_refs.proofs.Flat.{listed, none-listed}
use Rattle.assoc_refs.proofs.assocs.Assocs.nth_of.Goals as goal

pub returns-in-Some-clause-value : goal.returns-in-Some-clause-value
returns-in-Some-clause-value c =
    c.nth.ensures.value ∙ listed c.self.inside.lists.entries c.self.invariant.once c.args.object c.args.n (Some c.in-Some.list.now) (sym c.in-Some.ensures.value)
    ∙ ap (λ (a : Associated). slice_get (pairs_of a.pairs c.args.object) c.args.n) c.self.view_is

pub returns-in-None-clause-value : goal.returns-in-None-clause-value
returns-in-None-clause-value c =
    none-listed c.args.n ∙ listed c.self.inside.lists.entries c.self.invariant.once c.args.object c.args.n None (sym c.in-None.ensures.value)
    ∙ ap (λ (a : Associated). slice_get (pairs_of a.pairs c.args.object) c.args.n) c.self.view_is
