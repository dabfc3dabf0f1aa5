use Rattle.space_graph.proofs.Steps.{shade_step}
use Rattle.space_graph.proofs.Comings.{room_rest}
use Rattle.space_graph.proofs.graph.SpaceGraph.shade_at.Goals as goal

pub invariant_of-self : goal.invariant_of-self
invariant_of-self c = let r = (shade_step _ _ c.self.view_is c.self.invariant.0 c.args.spot c.args.id c.args.shade c.shade_spot.new.self c.requires.block c.requires.its c.requires.begun c.shade_spot.ensures) in (r.graph, room_rest _ _ c.shade_spot.new.self _ c.self.view_is r.rest c.self.invariant.1)

pub returns-clause-shade : goal.returns-clause-shade
returns-clause-shade c = (shade_step _ _ c.self.view_is c.self.invariant.0 c.args.spot c.args.id c.args.shade c.shade_spot.new.self c.requires.block c.requires.its c.requires.begun c.shade_spot.ensures).shade

pub returns-clause-rest : goal.returns-clause-rest
returns-clause-rest c = (shade_step _ _ c.self.view_is c.self.invariant.0 c.args.spot c.args.id c.args.shade c.shade_spot.new.self c.requires.block c.requires.its c.requires.begun c.shade_spot.ensures).rest
