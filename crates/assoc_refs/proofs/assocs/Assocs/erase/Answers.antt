use Rattle.std.proofs.Common.{ap, ◌∙◌, sym, subst, Some, None, ◌-◌, ◌≤◌}
use Rattle.assoc_refs.specs.Filter.{IsIn}
use Rattle.assoc_refs.specs.Table.{Associated, without_object, IsTable}
use Rattle.assoc_refs.proofs.Keeping.{erased-shown, erased-table, enough}
use Rattle.assoc_refs.proofs.assocs.Assocs.erase.Goals as goal

pub returns-in_default-clause-pairs : goal.returns-in_default-clause-pairs
returns-in_default-clause-pairs c =
    erased-shown c.self.inside.lists c.self.inside.blank c.self.inside.total _ c.self.invariant c.args.object c.swap_remove.new.self c.swap_remove.ensures.unique c.swap_remove.ensures.updates.0
    ∙ ap (λ (a : Associated). without_object a.pairs c.args.object) c.self.view_is

pub returns-clause-pairs : goal.returns-clause-pairs
returns-clause-pairs c =
    erased-shown c.self.inside.lists c.self.inside.blank c.self.inside.total _ c.self.invariant c.args.object c.swap_remove.new.self c.swap_remove.ensures.unique c.swap_remove.ensures.updates.0
    ∙ ap (λ (a : Associated). without_object a.pairs c.args.object) c.self.view_is

pub overflow_sub-self : goal.overflow_sub-self
overflow_sub-self c =
    subst (λ k. k ≤ c.self.inside.total) (sym c.len.ensures)
    (enough c.self.inside.lists c.self.inside.blank c.self.inside.total _ c.self.invariant c.args.object (Some c.in-Some.list) (sym c.in-Some.ensures.value))

pub invariant_of-self-2 : goal.invariant_of-self-2
invariant_of-self-2 c =
    subst (λ k. IsTable c.swap_remove.new.self c.self.inside.blank (c.self.inside.total - k) None (IsIn c.self.inside.filter.taken.items c.self.inside.filter.mask)) (sym c.len.ensures)
    (erased-table c.self.inside.lists c.self.inside.blank c.self.inside.total _ c.self.invariant c.args.object c.swap_remove.new.self c.swap_remove.ensures.unique
    (Some c.in-Some.list) (sym c.in-Some.ensures.value) c.swap_remove.ensures.updates.0)
