use Rattle.std.proofs.Common.{[], ap}
use Rattle.block_space.specs.Spaces.{Space', with_spare}
use Rattle.space_graph.proofs.Comings.{alike_graph, room_none, spare_alike}
use Rattle.space_graph.proofs.graph.SpaceGraph.unreserve.Goals as goal

pub invariant_of-self : goal.invariant_of-self
invariant_of-self c = (
  rw c.unreserve.ensures (alike_graph _ (with_spare c.self.inside.space []) c.self.invariant.0 (spare_alike c.self.inside.space [])),
  room_none _ _ _ c.self.invariant.0.few (ap (λ (s : Space'). s.spare) c.unreserve.ensures),
)
