use Rattle.std.proofs.Common.{ap, ◌∙◌, sym, Some}
use Rattle.std.specs.FinMap.{get}
use Rattle.weak_table.specs.Listings.{Listed}
use Rattle.weak_table.specs.Grouped.{Grouped}
use Rattle.weak_table.proofs.Grouping.{shown-group, group_in}
use Rattle.weak_table.proofs.groups.Groups.group_of.Goals as goal

pub returns-in-Some : goal.returns-in-Some
returns-in-Some c =
    ap (λ (s : Listed). Some s.group) c.place.view_is ∙ ap group_in (sym c.in-Some.is ∙ c.place_of.ensures) ∙ sym (shown-group c.self.inside.places.entries c.args.loc)
    ∙ ap (λ (g : Grouped). get g.groups c.args.loc) c.self.view_is

pub returns-in-None : goal.returns-in-None
returns-in-None c =
    ap group_in (sym c.in-None.is ∙ c.place_of.ensures) ∙ sym (shown-group c.self.inside.places.entries c.args.loc) ∙ ap (λ (g : Grouped). get g.groups c.args.loc) c.self.view_is
