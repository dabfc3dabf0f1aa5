use Rattle.std.proofs.Common.{ap, ◌∙◌, sym, refl, arith, Some, None, cond}
use Rattle.std.specs.FinMap.{remove}
use Rattle.std.specs.Map.{lookup}
use Rattle.az_base.specs.Places.{loc_eq}
use Rattle.weak_table.specs.Listings.{Listed}
use Rattle.weak_table.specs.Agrees.{place}
use Rattle.weak_table.specs.Grouped.{Grouped}
use Rattle.weak_table.proofs.Grouping.{kept-index, shown-taken, group_without, place-within, left-index, left-shown, moved-listed, group_in}
use Rattle.weak_table.proofs.groups.Groups.remove.Goals as goal

pub invariant_of-self : goal.invariant_of-self
invariant_of-self c =
    kept-index c.self.inside.places c.self.inside.lists c.self.inside.tight c.self.inside.room c.self.invariant c.take_place.new.places c.self.inside.lists
    c.in_default.ensures.unchanged c.take_place.ensures.spare (λ b. refl) c.self.invariant.roomy (omega arith)

pub returns-in_default-clause-groups : goal.returns-in_default-clause-groups
returns-in_default-clause-groups c =
    shown-taken c.self.inside.places.entries c.take_place.new.places.entries c.args.loc (λ q. ap group_in (c.take_place.ensures.puts q) ∙ group_without (loc_eq c.args.loc q) _)
    ∙ ap (λ (g : Grouped). remove g.groups c.args.loc) c.self.view_is

pub delist-requires : goal.delist-requires
delist-requires c =
    place-within c.self.inside.places c.self.inside.lists c.self.inside.tight c.self.inside.room c.self.invariant c.args.loc (place c.place.inside.group c.place.inside.at)
    (sym c.take_place.ensures.place ∙ c.in-Some.is ∙ sym (ap Some c.place.view_is))

pub invariant_of-self-in_default-delist : goal.invariant_of-self-in_default-delist
invariant_of-self-in_default-delist c =
    left-index c.self.inside.places c.self.inside.lists c.self.inside.tight c.self.inside.room c.self.invariant c.args.loc (place c.place.inside.group c.place.inside.at)
    (sym c.take_place.ensures.place ∙ c.in-Some.is ∙ sym (ap Some c.place.view_is)) c.delist.new.lists None c.delist.ensures.members (sym c.in_default-delist.is ∙ c.delist.ensures.moved)
    c.take_place.new.places c.take_place.ensures.puts c.take_place.ensures.spare c.delist.ensures.roomy c.delist.ensures.spare

pub returns-in_default-delist-clause-groups : goal.returns-in_default-delist-clause-groups
returns-in_default-delist-clause-groups c =
    shown-taken c.self.inside.places.entries c.take_place.new.places.entries c.args.loc (λ q. ap group_in (c.take_place.ensures.puts q) ∙ group_without (loc_eq c.args.loc q) _)
    ∙ ap (λ (g : Grouped). remove g.groups c.args.loc) c.self.view_is

pub change_place-requires : goal.change_place-requires
change_place-requires c =
    moved-listed c.self.inside.places c.self.inside.lists c.self.inside.tight c.self.inside.room c.self.invariant c.args.loc (place c.place.inside.group c.place.inside.at)
    (sym c.take_place.ensures.place ∙ c.in-Some.is ∙ sym (ap Some c.place.view_is)) c.delist.new.lists (Some c.in-Some-delist.moved) c.delist.ensures.members (sym c.in-Some-delist.is ∙ c.delist.ensures.moved)
    c.take_place.new.places.entries c.in-Some-delist.moved c.take_place.ensures.puts refl

pub invariant_of-self-2 : goal.invariant_of-self-2
invariant_of-self-2 c =
    left-index c.self.inside.places c.self.inside.lists c.self.inside.tight c.self.inside.room c.self.invariant c.args.loc (place c.place.inside.group c.place.inside.at)
    (sym c.take_place.ensures.place ∙ c.in-Some.is ∙ sym (ap Some c.place.view_is)) c.delist.new.lists (Some c.in-Some-delist.moved) c.delist.ensures.members (sym c.in-Some-delist.is ∙ c.delist.ensures.moved)
    c.change_place.new.places
    (λ q. c.change_place.ensures.puts q ∙ ap (λ (s : Listed). cond (loc_eq c.in-Some-delist.moved q) (Some s) (lookup (loc_eq q) c.take_place.new.places.entries)) (sym c.place.view_is) ∙ ap (cond (loc_eq c.in-Some-delist.moved q) (Some (place c.place.inside.group c.place.inside.at))) (c.take_place.ensures.puts q))
    (let same = c.change_place.ensures.spare in let more = c.take_place.ensures.spare in omega (arith, same, more)) c.delist.ensures.roomy c.delist.ensures.spare

pub returns-clause-groups : goal.returns-clause-groups
returns-clause-groups c =
    left-shown c.self.inside.places c.self.inside.lists c.self.inside.tight c.self.inside.room c.self.invariant c.args.loc (place c.place.inside.group c.place.inside.at)
    (sym c.take_place.ensures.place ∙ c.in-Some.is ∙ sym (ap Some c.place.view_is)) c.delist.new.lists (Some c.in-Some-delist.moved) c.delist.ensures.members (sym c.in-Some-delist.is ∙ c.delist.ensures.moved)
    c.change_place.new.places
    (λ q. c.change_place.ensures.puts q ∙ ap (λ (s : Listed). cond (loc_eq c.in-Some-delist.moved q) (Some s) (lookup (loc_eq q) c.take_place.new.places.entries)) (sym c.place.view_is) ∙ ap (cond (loc_eq c.in-Some-delist.moved q) (Some (place c.place.inside.group c.place.inside.at))) (c.take_place.ensures.puts q))
    ∙ ap (λ (g : Grouped). remove g.groups c.args.loc) c.self.view_is
