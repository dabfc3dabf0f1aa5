use Rattle.std.proofs.Common.{is_some}
use Rattle.block_table.proofs.Marked.{marked_lying, rest_is, visits_are}
use Rattle.block_table.proofs.table.BlockTable.visit.Goals as goal

pub invariant_of-self : goal.invariant_of-self
invariant_of-self c = marked_lying c.self.inside.graph c.visit.new.self _ _ _ c.visit.ensures.rest c.self.invariant

pub returns-clause-visits : goal.returns-clause-visits
returns-clause-visits c = visits_are _ c.self.inside.graph c.self.inside.kept.entries c.self.view_is c.visit.new.self c.visit.ensures.rest c.args.mode c.args.id (is_some c.visit.result) c.visit.ensures.visits

pub returns-clause-rest : goal.returns-clause-rest
returns-clause-rest c = rest_is _ c.self.inside.graph c.self.inside.kept.entries c.self.view_is c.visit.new.self c.visit.ensures.rest
