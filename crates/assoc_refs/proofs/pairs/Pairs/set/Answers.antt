use Rattle.std.proofs.Common.{ap, ◌∙◌, sym, subst, Ok, Err, is_ok}
use Rattle.std.specs.Prelude.{insert as list_insert}
use Rattle.std.specs.FinMap.{get, insert}
use Rattle.assoc_refs.specs.Values.{Values, Finds, numbered}
use Rattle.assoc_refs.proofs.Places.{get-found, get-absent, list-written, list-inserted, map-changed, sorted-changed, sorted-either}
use Rattle.assoc_refs.proofs.pairs.Pairs.set.Goals as goal

pub returns-in-Ok-clause-before : goal.returns-in-Ok-clause-before
returns-in-Ok-clause-before c =
    sym (get-found c.self.inside.list.items c.args.key.0 c.in-Ok.place c.index.result.now c.self.invariant
    (subst (λ es. Finds c.args.key.0 (numbered es) (Ok c.in-Ok.place)) c.deref.ensures.value c.in-Ok.ensures) c.index.ensures)
    ∙ ap (λ (v : Values). get v.values c.args.key.0) c.self.view_is

pub returns-in-Ok-clause-ok : goal.returns-in-Ok-clause-ok
returns-in-Ok-clause-ok c =
    map-changed c.self.inside.list.items _ c.args.key.0 c.args.value c.self.invariant
    (list-written c.self.inside.list.items c.args.key c.args.value c.in-Ok.place (subst (λ es. Finds c.args.key.0 (numbered es) (Ok c.in-Ok.place)) c.deref.ensures.value c.in-Ok.ensures))
    ∙ ap (λ (v : Values). insert v.values c.args.key.0 c.args.value) c.self.view_is

pub invariant_of-self : goal.invariant_of-self
invariant_of-self c =
    sorted-changed c.self.inside.list.items _ c.args.key.0 c.args.value c.self.invariant
    (list-written c.self.inside.list.items c.args.key c.args.value c.in-Ok.place (subst (λ es. Finds c.args.key.0 (numbered es) (Ok c.in-Ok.place)) c.deref.ensures.value c.in-Ok.ensures))

pub invariant_of-self-in-Err : goal.invariant_of-self-in-Err
invariant_of-self-in-Err c =
    let es = c.self.inside.list.items in
    let f : Finds c.args.key.0 (numbered es) (Err c.in-Err.place) = subst (λ xs. Finds c.args.key.0 (numbered xs) (Err c.in-Err.place)) c.deref.ensures.value c.in-Err.ensures in
    sorted-either es c.insert.new.self.items (list_insert es c.in-Err.place (c.args.key, c.args.value)) (is_ok c.insert.result) c.self.invariant
    (sorted-changed es _ c.args.key.0 c.args.value c.self.invariant (list-inserted es c.args.key c.args.value c.in-Err.place f)) c.insert.ensures.items

pub returns-in_ok-insert-in-Err-clause-before : goal.returns-in_ok-insert-in-Err-clause-before
returns-in_ok-insert-in-Err-clause-before c =
    sym (get-absent c.self.inside.list.items c.args.key.0 c.in-Err.place c.self.invariant
    (subst (λ xs. Finds c.args.key.0 (numbered xs) (Err c.in-Err.place)) c.deref.ensures.value c.in-Err.ensures))
    ∙ ap (λ (v : Values). get v.values c.args.key.0) c.self.view_is

pub returns-in_ok-insert-in-Err-clause-ok : goal.returns-in_ok-insert-in-Err-clause-ok
returns-in_ok-insert-in-Err-clause-ok c =
    let es = c.self.inside.list.items in
    let f : Finds c.args.key.0 (numbered es) (Err c.in-Err.place) = subst (λ xs. Finds c.args.key.0 (numbered xs) (Err c.in-Err.place)) c.deref.ensures.value c.in-Err.ensures in
    map-changed es c.insert.new.self.items c.args.key.0 c.args.value c.self.invariant
    (ap numbered c.in_ok-insert-in-Err.ensures.items ∙ list-inserted es c.args.key c.args.value c.in-Err.place f)
    ∙ ap (λ (v : Values). insert v.values c.args.key.0 c.args.value) c.self.view_is
