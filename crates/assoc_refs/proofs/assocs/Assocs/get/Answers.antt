use Rattle.std.proofs.Common.{ap, ◌∙◌, sym, Some, None}
use Rattle.std.specs.Ordering.{nat_cmp}
use Rattle.std.specs.FinMap.{get, get-empty}
use Rattle.assoc_refs.specs.Table.{Associated}
use Rattle.assoc_refs.proofs.Flat.{got}
use Rattle.assoc_refs.proofs.assocs.Assocs.get.Goals as goal

pub returns-in-Some : goal.returns-in-Some
returns-in-Some c =
    c.get-in-Some.ensures ∙ got c.self.inside.lists.entries c.self.invariant.once c.args.object c.args.key.0 (Some c.in-Some.list.now) (sym c.in-Some.ensures.value)
    ∙ ap (λ (a : Associated). get a.pairs (c.args.object, c.args.key.0)) c.self.view_is

pub returns-in-None : goal.returns-in-None
returns-in-None c =
    sym (get-empty nat_cmp c.args.key.0) ∙ got c.self.inside.lists.entries c.self.invariant.once c.args.object c.args.key.0 None (sym c.in-None.ensures.value)
    ∙ ap (λ (a : Associated). get a.pairs (c.args.object, c.args.key.0)) c.self.view_is
