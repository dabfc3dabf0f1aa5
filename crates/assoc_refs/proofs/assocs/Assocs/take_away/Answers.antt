use Rattle.std.proofs.Common.{ap, ◌∙◌, sym, Some, None, is_some}
use Rattle.std.specs.FinMap.{remove}
use Rattle.assoc_refs.specs.Table.{Associated, shown_pairs}
use Rattle.assoc_refs.proofs.Keeping.{stays-met, changed-shown, taken-table, some-counted, never-none, stays-away}
use Rattle.assoc_refs.proofs.assocs.Assocs.take_away.Goals as goal

pub returns-in_default-clause-pairs : goal.returns-in_default-clause-pairs
returns-in_default-clause-pairs c =
    stays-away (shown_pairs c.self.inside.lists.entries) (c.args.object, c.args.key.0) (sym c.get.ensures ∙ c.in_default.is)
    ∙ ap (λ (a : Associated). remove a.pairs (c.args.object, c.args.key.0)) c.self.view_is

pub unreachable-requires : goal.unreachable-requires
unreachable-requires c =
    never-none c.self.inside.lists c.self.inside.blank c.self.inside.total _ c.self.invariant c.args.object c.args.key.0 c.in-Some.before (sym c.get.ensures ∙ c.in-Some.is) (sym c.in_default-get_mut.ensures.value)

pub overflow_sub-self : goal.overflow_sub-self
overflow_sub-self c = some-counted c.self.inside.lists c.self.inside.blank c.self.inside.total _ c.self.invariant c.args.object c.args.key.0 c.in-Some.before (sym c.get.ensures ∙ c.in-Some.is)

pub invariant_of-self-2 : goal.invariant_of-self-2
invariant_of-self-2 c =
    let there = sym c.in-Some-get_mut.ensures.value in
    let written = c.get_mut.follows.holds c.remove.new.self in
    taken-table c.self.inside.lists c.self.inside.blank c.self.inside.total _ c.self.invariant c.args.object (c.get_mut.follows.lender c.remove.new.self) written.4 c.args.key.0 c.in-Some.before
    (stays-met c.self.inside.lists c.self.inside.blank c.self.inside.total _ c.self.invariant c.args.object (c.get_mut.follows.lender c.remove.new.self) written.4 (Some c.remove.new.self) (written.3 (ap is_some there)).0
    (λ _ _. c.self.invariant.met c.args.object c.in-Some-get_mut.list.now there))
    (sym c.get.ensures ∙ c.in-Some.is)
    (changed-shown c.self.inside.lists c.self.inside.blank c.self.inside.total _ c.self.invariant c.args.object (c.get_mut.follows.lender c.remove.new.self) written.4
    c.in-Some-get_mut.list.now c.remove.new.self c.args.key.0 None there (written.3 (ap is_some there)).0 c.remove.ensures.values)

pub returns-clause-pairs : goal.returns-clause-pairs
returns-clause-pairs c =
    let there = sym c.in-Some-get_mut.ensures.value in
    let written = c.get_mut.follows.holds c.remove.new.self in
    ap (λ (a : Associated). a.pairs) c.prune.ensures
    ∙ changed-shown c.self.inside.lists c.self.inside.blank c.self.inside.total _ c.self.invariant c.args.object (c.get_mut.follows.lender c.remove.new.self) written.4
    c.in-Some-get_mut.list.now c.remove.new.self c.args.key.0 None there (written.3 (ap is_some there)).0 c.remove.ensures.values
    ∙ ap (λ (a : Associated). remove a.pairs (c.args.object, c.args.key.0)) c.self.view_is
