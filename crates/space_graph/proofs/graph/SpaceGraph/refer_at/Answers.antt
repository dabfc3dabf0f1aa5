use Rattle.space_graph.proofs.Steps.{refer_step}
use Rattle.space_graph.proofs.Comings.{room_rest}
use Rattle.space_graph.proofs.graph.SpaceGraph.refer_at.Goals as goal

pub invariant_of-self : goal.invariant_of-self
invariant_of-self c = let r = (refer_step _ _ c.self.view_is c.self.invariant.0 c.args.spot c.args.i c.args.to c.refer_spot.new.self c.requires.same c.refer_spot.ensures) in (r.graph, room_rest _ _ c.refer_spot.new.self _ c.self.view_is r.rest c.self.invariant.1)

pub returns-clause-rest : goal.returns-clause-rest
returns-clause-rest c = (refer_step _ _ c.self.view_is c.self.invariant.0 c.args.spot c.args.i c.args.to c.refer_spot.new.self c.requires.same c.refer_spot.ensures).rest
