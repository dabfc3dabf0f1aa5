use Rattle.space_graph.proofs.Comings.{all_begun}
use Rattle.space_graph.proofs.graph.SpaceGraph.begin.Goals as goal

pub invariant_of-self : goal.invariant_of-self
invariant_of-self c = (all_begun _ c.len.result c.self.invariant.0 c.len.ensures.len, c.self.invariant.1)
