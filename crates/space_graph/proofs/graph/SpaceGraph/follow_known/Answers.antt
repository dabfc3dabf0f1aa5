use Rattle.space_graph.proofs.Steps.{follow_step}
use Rattle.space_graph.proofs.Comings.{room_rest}
use Rattle.space_graph.proofs.graph.SpaceGraph.follow_known.Goals as goal

pub invariant_of-self : goal.invariant_of-self
invariant_of-self c = let r = (follow_step _ _ c.self.view_is c.self.invariant.0 c.is_whole.ensures c.args.mode c.args.spot c.args.from c.args.stack.now c.visit_words.new.self c.visit_words.new.stack c.visit_words.result c.visit_words.ensures.visits) in (r.graph, room_rest _ _ c.visit_words.new.self _ c.self.view_is r.rest c.self.invariant.1)

pub returns-clause-follows : goal.returns-clause-follows
returns-clause-follows c = (follow_step _ _ c.self.view_is c.self.invariant.0 c.is_whole.ensures c.args.mode c.args.spot c.args.from c.args.stack.now c.visit_words.new.self c.visit_words.new.stack c.visit_words.result c.visit_words.ensures.visits).follows

pub returns-clause-rest : goal.returns-clause-rest
returns-clause-rest c = (follow_step _ _ c.self.view_is c.self.invariant.0 c.is_whole.ensures c.args.mode c.args.spot c.args.from c.args.stack.now c.visit_words.new.self c.visit_words.new.stack c.visit_words.result c.visit_words.ensures.visits).rest
