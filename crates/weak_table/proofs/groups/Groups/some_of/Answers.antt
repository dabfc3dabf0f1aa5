use Rattle.std.proofs.Common.{◌≡◌, sym, subst, Some}
use Rattle.std.specs.Option.{MatchOption}
use Rattle.std.specs.FinMap.{get}
use Rattle.az_base.specs.declared.weak_loc.WeakLoc.{WeakLoc}
use Rattle.weak_table.specs.Grouped.{Grouped}
use Rattle.weak_table.proofs.Grouping.{some-listed}
use Rattle.weak_table.proofs.groups.Groups.some_of.Goals as goal

pub returns : goal.returns
returns c =
    subst (λ (g : Grouped). MatchOption c.member_in.result ((q : WeakLoc) → get g.groups q ≡ Some c.args.group → ⊥) (λ l. get g.groups l ≡ Some c.args.group)) c.self.view_is
    (some-listed c.self.inside.places c.self.inside.lists c.self.inside.tight c.self.inside.room c.self.invariant c.args.group c.member_in.result (sym c.member_in.ensures))
