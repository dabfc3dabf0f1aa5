use Rattle.std.proofs.Common.{subst}
use Rattle.std.specs.Map.{keys_of}
use Rattle.quantum_space.specs.Shapes.{Once}
use Rattle.space_graph.specs.Graphs.{Rows'}
use Rattle.space_graph.proofs.Positions.{once_each}
use Rattle.space_graph.proofs.rows.Rows.len.Goals as goal

pub returns-clause-once : goal.returns-clause-once
returns-clause-once c = subst (λ (r : Rows'). Once (keys_of r.list)) c.self.view_is (once_each (keys_of c.self.inside.map.entries) c.len.ensures.unique)
