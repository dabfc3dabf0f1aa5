use Rattle.std.proofs.Common.{sym, ◌∙◌}
use Rattle.space_graph.proofs.Steps.{visits_none}
use Rattle.space_graph.proofs.graph.view.SpaceGraphGraph.visit.Goals as goal

pub returns-in_default-clause-visits : goal.returns-in_default-clause-visits
returns-in_default-clause-visits c = visits_none c.args.mode c.args.self.now c.args.id (sym c.find.ensures.value ∙ c.in_default.is)
