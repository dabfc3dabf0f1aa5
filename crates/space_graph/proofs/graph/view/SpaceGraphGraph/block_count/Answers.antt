use Rattle.std.proofs.Common.{subst, length, ◌≡◌}
use Rattle.std.specs.Map.{keys_of}
use Rattle.quantum_space.specs.Shapes.{Once}
use Rattle.space_graph.specs.Graphs.{Graph', begun}
use Rattle.space_graph.proofs.Positions.{first_count, once_first}
use Rattle.space_graph.proofs.graph.view.SpaceGraphGraph.block_count.Goals as goal

pub returns-clause-once : goal.returns-clause-once
returns-clause-once c = subst (λ (g : Graph'). Once (begun g)) c.self.view_is (once_first (keys_of c.self.inside.rows.list) c.self.inside.began c.self.invariant.0.once)

pub returns-clause-count : goal.returns-clause-count
returns-clause-count c = subst (λ (g : Graph'). c.self.inside.began ≡ length (begun g)) c.self.view_is (first_count c.self.inside.rows.list c.self.inside.began c.self.invariant.0.began)
