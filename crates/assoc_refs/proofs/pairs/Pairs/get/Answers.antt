use Rattle.std.proofs.Common.{ap, ◌∙◌, sym, subst, Ok, Err}
use Rattle.std.specs.FinMap.{get}
use Rattle.assoc_refs.specs.Values.{Values, Finds, numbered}
use Rattle.assoc_refs.proofs.Places.{get-found, get-absent}
use Rattle.assoc_refs.proofs.pairs.Pairs.get.Goals as goal

pub returns-in-Ok : goal.returns-in-Ok
returns-in-Ok c =
    sym (get-found c.self.inside.list.items c.args.key.0 c.in-Ok.place c.index.result.now c.self.invariant
    (subst (λ es. Finds c.args.key.0 (numbered es) (Ok c.in-Ok.place)) c.deref.ensures.value c.in-Ok.ensures) c.index.ensures)
    ∙ ap (λ (v : Values). get v.values c.args.key.0) c.self.view_is

pub returns-in-Err : goal.returns-in-Err
returns-in-Err c =
    sym (get-absent c.self.inside.list.items c.args.key.0 c.in-Err.field-0 c.self.invariant
    (subst (λ es. Finds c.args.key.0 (numbered es) (Err c.in-Err.field-0)) c.deref.ensures.value c.in-Err.ensures))
    ∙ ap (λ (v : Values). get v.values c.args.key.0) c.self.view_is
