use Rattle.std.proofs.Common.{sym, ◌∙◌}
use Rattle.std.specs.Map.{keys_of}
use Rattle.space_graph.proofs.Positions.{first_all, none_has}
use Rattle.space_graph.proofs.graph.SpaceGraph.scan_any.Goals as goal

pub returns-in_default-clause-scans : goal.returns-in_default-clause-scans
returns-in_default-clause-scans c = absurd (none_has c.args.self.now.rows c.args.id (sym c.find_near.ensures.value ∙ c.in_default.is) (first_all (keys_of c.args.self.now.rows) c.args.self.now.began c.args.id c.requires))
