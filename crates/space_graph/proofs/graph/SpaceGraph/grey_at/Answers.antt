use Rattle.space_graph.proofs.Steps.{visit_step}
use Rattle.space_graph.proofs.Comings.{room_rest}
use Rattle.space_graph.proofs.graph.SpaceGraph.grey_at.Goals as goal

pub invariant_of-self : goal.invariant_of-self
invariant_of-self c = let r = (visit_step _ _ c.self.view_is c.self.invariant.0 c.args.spot c.args.id c.args.mode c.grey_spot.result c.grey_spot.new.self c.requires.block c.requires.its c.grey_spot.ensures) in (r.graph, room_rest _ _ c.grey_spot.new.self _ c.self.view_is r.rest c.self.invariant.1)

pub returns-clause-visits : goal.returns-clause-visits
returns-clause-visits c = (visit_step _ _ c.self.view_is c.self.invariant.0 c.args.spot c.args.id c.args.mode c.grey_spot.result c.grey_spot.new.self c.requires.block c.requires.its c.grey_spot.ensures).visits

pub returns-clause-rest : goal.returns-clause-rest
returns-clause-rest c = (visit_step _ _ c.self.view_is c.self.invariant.0 c.args.spot c.args.id c.args.mode c.grey_spot.result c.grey_spot.new.self c.requires.block c.requires.its c.grey_spot.ensures).rest
