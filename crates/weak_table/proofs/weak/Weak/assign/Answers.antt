use Rattle.std.proofs.Common.{ap, ◌∙◌, sym}
use Rattle.std.specs.FinMap.{get, insert}
use Rattle.az_base.specs.WithValue.{with_value}
use Rattle.weak_table.proofs.Showing.{removed-there, added-again}
use Rattle.weak_table.proofs.weak.Weak.assign.Goals as goal

pub show-requires-clause-null : goal.show-requires-clause-null
show-requires-clause-null c = ap (λ m. get m c.args.loc) c.clear.ensures.shown ∙ removed-there c.args.self.now.shown c.args.loc

pub returns-in-Some-clause-shown : goal.returns-in-Some-clause-shown
returns-in-Some-clause-shown c =
    c.show.ensures.shown ∙ ap (λ m. insert m c.args.loc c.in-Some.value) c.clear.ensures.shown ∙ added-again c.args.self.now.shown c.args.loc c.in-Some.value
    ∙ ap (with_value c.args.self.now.shown c.args.loc) (sym c.in-Some.is)
