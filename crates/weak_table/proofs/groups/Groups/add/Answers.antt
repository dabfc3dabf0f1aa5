use Rattle.std.proofs.Common.{ap, ◌∙◌}
use Rattle.std.specs.FinMap.{get, insert}
use Rattle.weak_table.specs.Grouped.{Grouped}
use Rattle.weak_table.specs.Agrees.{place}
use Rattle.weak_table.proofs.Grouping.{shown-put, added-index, absent-place}
use Rattle.weak_table.proofs.groups.Groups.add.Goals as goal

pub returns-clause-groups : goal.returns-clause-groups
returns-clause-groups c =
    shown-put c.self.inside.places.entries c.put_place.new.places.entries c.args.loc (place c.args.group c.enlist-at.result) c.put_place.ensures
    ∙ ap (λ (g : Grouped). insert g.groups c.args.loc c.args.group) c.self.view_is

pub invariant_of-self : goal.invariant_of-self
invariant_of-self c =
    added-index c.self.inside.places c.self.inside.lists c.self.inside.tight c.self.inside.room c.self.invariant c.put_place.new.places c.enlist-at.new.lists c.args.loc c.args.group c.enlist-at.result
    (absent-place c.self.inside.places c.self.inside.lists c.self.inside.tight c.self.inside.room c.self.invariant c.args.loc (ap (λ (g : Grouped). get g.groups c.args.loc) c.self.view_is ∙ c.requires.absent))
    c.enlist-at.ensures.place c.put_place.ensures c.enlist-at.ensures.members c.enlist-at.ensures.roomy
