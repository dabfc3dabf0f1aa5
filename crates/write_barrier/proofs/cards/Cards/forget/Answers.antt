use Rattle.std.proofs.Common.{◌≡◌, ap, ◌∙◌, sym, subst}
use Rattle.std.specs.List.Sorted.{IsStrictlySortedBy}
use Rattle.az_base.specs.Ids.{id_cmp}
use Rattle.write_barrier.specs.Remembered.{Remembered, without_block}
use Rattle.write_barrier.proofs.InOrder.{Parts, IsAt, read_parts, read_at, without_there, without_none, among_new, sorted_without}
use Rattle.write_barrier.proofs.cards.Cards.forget.Goals as goal

pub invariant_of-self : goal.invariant_of-self
invariant_of-self c =
    let items = c.self.inside.ids.items in
    let at : IsAt c.args.id items c.in-Ok.place = read_at c.args.id items c.deref.result.now c.in-Ok.place c.deref.ensures.value c.in-Ok.ensures.bound c.in-Ok.ensures.ok in
    subst (IsStrictlySortedBy id_cmp) (sym (c.remove.ensures.items ∙ without_there c.args.id items c.in-Ok.place c.self.invariant at.0 at.1)) (sorted_without c.args.id items c.self.invariant)

pub returns-in-Ok-clause-list : goal.returns-in-Ok-clause-list
returns-in-Ok-clause-list c =
    let items = c.self.inside.ids.items in
    let at : IsAt c.args.id items c.in-Ok.place = read_at c.args.id items c.deref.result.now c.in-Ok.place c.deref.ensures.value c.in-Ok.ensures.bound c.in-Ok.ensures.ok in
    c.remove.ensures.items ∙ without_there c.args.id items c.in-Ok.place c.self.invariant at.0 at.1 ∙ ap (λ (v : Remembered). without_block c.args.id v.list) c.self.view_is

pub returns-in_default-clause-list : goal.returns-in_default-clause-list
returns-in_default-clause-list c =
    let items = c.self.inside.ids.items in
    let p : Parts c.args.id items c.in_default.field-0 = read_parts c.args.id items c.deref.result.now c.in_default.field-0 c.deref.ensures.value c.self.invariant c.in_default.ensures.position in
    subst (λ (v : Remembered). v.list ≡ without_block c.args.id v.list) c.self.view_is (without_none c.args.id items (among_new c.args.id items c.in_default.field-0 p))
