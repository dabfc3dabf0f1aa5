use Rattle.space_graph.proofs.Comings.{room_rest}
use Rattle.space_graph.proofs.Whites.{white_step}
use Rattle.space_graph.proofs.graph.SpaceGraph.whiten_blocks.Goals as goal

pub invariant_of-self : goal.invariant_of-self
invariant_of-self c = let w = (white_step _ _ c.self.view_is c.self.invariant.0 c.whiten_all.new.self c.whiten_all.ensures.by_quantum c.requires) in (w.graph, room_rest _ _ c.whiten_all.new.self _ c.self.view_is w.rest c.self.invariant.1)

pub returns-clause-each : goal.returns-clause-each
returns-clause-each c = (white_step _ _ c.self.view_is c.self.invariant.0 c.whiten_all.new.self c.whiten_all.ensures.by_quantum c.requires).each

pub returns-clause-outside : goal.returns-clause-outside
returns-clause-outside c = (white_step _ _ c.self.view_is c.self.invariant.0 c.whiten_all.new.self c.whiten_all.ensures.by_quantum c.requires).outside

pub returns-clause-rest : goal.returns-clause-rest
returns-clause-rest c = (white_step _ _ c.self.view_is c.self.invariant.0 c.whiten_all.new.self c.whiten_all.ensures.by_quantum c.requires).rest
