use Rattle.std.proofs.Common.{ap, ◌∙◌, sym, subst, Ok, Err}
use Rattle.std.specs.FinMap.{get, remove}
use Rattle.assoc_refs.specs.Values.{Values, Finds, numbered}
use Rattle.assoc_refs.proofs.Places.{get-found, get-absent, list-removed, map-left, sorted-left, map-absent}
use Rattle.assoc_refs.proofs.pairs.Pairs.remove.Goals as goal

pub returns-in-Ok-clause-before : goal.returns-in-Ok-clause-before
returns-in-Ok-clause-before c =
    sym (get-found c.self.inside.list.items c.args.key.0 c.in-Ok.place c.remove-value.result c.self.invariant
    (subst (λ es. Finds c.args.key.0 (numbered es) (Ok c.in-Ok.place)) c.deref.ensures.value c.in-Ok.ensures) c.remove-value.ensures.value)
    ∙ ap (λ (v : Values). get v.values c.args.key.0) c.self.view_is

pub returns-in-Ok-clause-values : goal.returns-in-Ok-clause-values
returns-in-Ok-clause-values c =
    map-left c.self.inside.list.items c.remove-value.new.self.items c.args.key.0 c.self.invariant
    (ap numbered c.remove-value.ensures.items ∙ list-removed c.self.inside.list.items c.args.key.0 c.in-Ok.place c.self.invariant
    (subst (λ es. Finds c.args.key.0 (numbered es) (Ok c.in-Ok.place)) c.deref.ensures.value c.in-Ok.ensures))
    ∙ ap (λ (v : Values). remove v.values c.args.key.0) c.self.view_is

pub invariant_of-self : goal.invariant_of-self
invariant_of-self c =
    sorted-left c.self.inside.list.items c.remove-value.new.self.items c.args.key.0 c.self.invariant
    (ap numbered c.remove-value.ensures.items ∙ list-removed c.self.inside.list.items c.args.key.0 c.in-Ok.place c.self.invariant
    (subst (λ es. Finds c.args.key.0 (numbered es) (Ok c.in-Ok.place)) c.deref.ensures.value c.in-Ok.ensures))

pub returns-in-Err-clause-before : goal.returns-in-Err-clause-before
returns-in-Err-clause-before c =
    sym (get-absent c.self.inside.list.items c.args.key.0 c.in-Err.field-0 c.self.invariant
    (subst (λ es. Finds c.args.key.0 (numbered es) (Err c.in-Err.field-0)) c.deref.ensures.value c.in-Err.ensures))
    ∙ ap (λ (v : Values). get v.values c.args.key.0) c.self.view_is

pub returns-in-Err-clause-values : goal.returns-in-Err-clause-values
returns-in-Err-clause-values c =
    ap (λ (v : Values). v.values) (sym c.self.view_is)
    ∙ map-absent c.self.inside.list.items c.args.key.0 c.in-Err.field-0 c.self.invariant
    (subst (λ es. Finds c.args.key.0 (numbered es) (Err c.in-Err.field-0)) c.deref.ensures.value c.in-Err.ensures)
    ∙ ap (λ (v : Values). remove v.values c.args.key.0) c.self.view_is
