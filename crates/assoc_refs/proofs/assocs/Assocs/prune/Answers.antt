use Rattle.std.proofs.Common.{◌≡◌, ap, ◌∙◌, sym, subst, arith}
use Rattle.std.specs.FinMap.{len}
use Rattle.assoc_refs.specs.Filter.{IsIn}
use Rattle.assoc_refs.specs.Table.{Associated, IsTable}
use Rattle.assoc_refs.proofs.Keeping.{pruned-shown, pruned-table}
use Rattle.assoc_refs.proofs.assocs.Assocs.prune.Goals as goal

pub returns : goal.returns
returns c =
    let none : len c.in-Some.list.now.values ≡ 0 = omega (arith, c.len.ensures) in
    let same = pruned-shown c.self.inside.lists c.self.inside.blank c.self.inside.total c.self.inside.ready c.self.invariant c.args.object c.swap_remove.new.self c.swap_remove.ensures.unique
    c.in-Some.list.now (sym c.in-Some.ensures.value) none c.swap_remove.ensures.updates.0 in
    ap (λ p. let a : Associated = record { pairs = p; ready = c.self.inside.ready } in a) same ∙ c.self.view_is

pub invariant_of-self-2 : goal.invariant_of-self-2
invariant_of-self-2 c =
    let none : len c.in-Some.list.now.values ≡ 0 = omega (arith, c.len.ensures) in
    subst (λ r. IsTable c.swap_remove.new.self c.self.inside.blank c.self.inside.total r (IsIn c.self.inside.filter.taken.items c.self.inside.filter.mask)) (sym (ap (λ (a : Associated). a.ready) c.self.view_is ∙ c.requires))
    (pruned-table c.self.inside.lists c.self.inside.blank c.self.inside.total c.self.inside.ready c.self.invariant c.args.object c.swap_remove.new.self c.swap_remove.ensures.unique
    c.in-Some.list.now (sym c.in-Some.ensures.value) none c.swap_remove.ensures.updates.0)
