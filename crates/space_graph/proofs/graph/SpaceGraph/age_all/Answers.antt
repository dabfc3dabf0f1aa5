use Rattle.std.proofs.Common.{refl}
use Rattle.space_graph.proofs.Comings.{aged_graph, room_same}
use Rattle.space_graph.proofs.graph.SpaceGraph.age_all.Goals as goal

pub invariant_of-self : goal.invariant_of-self
invariant_of-self c = (aged_graph _ c.age_all.new.self c.age_all.ensures.bytes _ refl c.self.invariant.0, room_same _ _ _ _ c.age_all.ensures.bytes.spare c.self.invariant.1)
