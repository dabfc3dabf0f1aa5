use Rattle.std.proofs.Common.{◌≡◌, ap, ◌∙◌, sym, subst, arith, inl, inr}
use Rattle.std.specs.List.Sorted.{IsStrictlySortedBy}
use Rattle.az_base.specs.Ids.{id_cmp, among}
use Rattle.write_barrier.specs.Remembered.{Remembered, with_block}
use Rattle.write_barrier.proofs.InOrder.{Parts, IsAt, read_parts, read_at, with_there, with_new, among_there, among_new, sorted_with}
use Rattle.write_barrier.proofs.cards.Cards.remember.Goals as goal

pub invariant_of-self : goal.invariant_of-self
invariant_of-self c =
    let items = c.self.inside.ids.items in
    let p : Parts c.args.id items c.in-Err.place = read_parts c.args.id items c.deref.result.now c.in-Err.place c.deref.ensures.value c.self.invariant c.in-Err.ensures.position in
    subst (IsStrictlySortedBy id_cmp) (sym (c.in-Ok.ensures.items ∙ with_new c.args.id items c.in-Err.place p)) (sorted_with c.args.id items c.self.invariant)

pub unreachable-requires : goal.unreachable-requires
unreachable-requires c =
    let items = c.self.inside.ids.items in
    let p : Parts c.args.id items c.in-Err.place = read_parts c.args.id items c.deref.result.now c.in-Err.place c.deref.ensures.value c.self.invariant c.in-Err.ensures.position in
    elim c.requires [
      | inl room ↦ omega (arith, room, c.in_default-insert.ensures.full, ap (λ (v : Remembered). v.spare) c.self.view_is)
      | inr there ↦ let n = among_new c.args.id items c.in-Err.place p in let e = ap (λ (v : Remembered). among v.list c.args.id) c.self.view_is in cc
    ]

pub returns-in-Ok-clause-list : goal.returns-in-Ok-clause-list
returns-in-Ok-clause-list c =
    let items = c.self.inside.ids.items in
    let p : Parts c.args.id items c.in-Err.place = read_parts c.args.id items c.deref.result.now c.in-Err.place c.deref.ensures.value c.self.invariant c.in-Err.ensures.position in
    c.in-Ok.ensures.items ∙ with_new c.args.id items c.in-Err.place p ∙ ap (λ (v : Remembered). with_block c.args.id v.list) c.self.view_is

pub returns-in-Ok-clause-there : goal.returns-in-Ok-clause-there
returns-in-Ok-clause-there c there =
    let items = c.self.inside.ids.items in
    let p : Parts c.args.id items c.in-Err.place = read_parts c.args.id items c.deref.result.now c.in-Err.place c.deref.ensures.value c.self.invariant c.in-Err.ensures.position in
    let n = among_new c.args.id items c.in-Err.place p in
    let e = ap (λ (v : Remembered). among v.list c.args.id) c.self.view_is in
    cc

pub returns-in_default-clause-list : goal.returns-in_default-clause-list
returns-in_default-clause-list c =
    let items = c.self.inside.ids.items in
    let at : IsAt c.args.id items c.in_default.field-0 = read_at c.args.id items c.deref.result.now c.in_default.field-0 c.deref.ensures.value c.in_default.ensures.bound c.in_default.ensures.ok in
    sym (subst (λ (v : Remembered). with_block c.args.id v.list ≡ v.list) c.self.view_is (with_there c.args.id items c.in_default.field-0 c.self.invariant at.0 at.1))

pub returns-in_default-clause-added : goal.returns-in_default-clause-added
returns-in_default-clause-added c new =
    let items = c.self.inside.ids.items in
    let at : IsAt c.args.id items c.in_default.field-0 = read_at c.args.id items c.deref.result.now c.in_default.field-0 c.deref.ensures.value c.in_default.ensures.bound c.in_default.ensures.ok in
    let y = among_there c.args.id items c.in_default.field-0 at.0 at.1 in
    let e = ap (λ (v : Remembered). among v.list c.args.id) c.self.view_is in
    cc
