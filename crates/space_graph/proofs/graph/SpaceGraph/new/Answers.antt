use Rattle.std.proofs.Common.{◌≡◌, ap, arith, length}
use Rattle.space_graph.proofs.Comings.{none_graph, room_none}
use Rattle.space_graph.proofs.graph.SpaceGraph.new.Goals as goal

pub invariant_of-result : goal.invariant_of-result
invariant_of-result c = (none_graph c.new.result.list c.new-2.result c.new-3.result.items c.new-4.result.items c.new.ensures c.new-2.ensures.by_quantum, room_none _ _ _ (let n : length c.new.result.list ≡ 0 = ap length c.new.ensures in omega (arith, n)) c.new-2.ensures.spare)
