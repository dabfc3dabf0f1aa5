use Rattle.block_table.proofs.Marked.{marked_lying, nth_is, rest_is}
use Rattle.block_table.proofs.table.BlockTable.shade_nth.Goals as goal

pub invariant_of-self : goal.invariant_of-self
invariant_of-self c = marked_lying c.self.inside.graph c.shade_nth.new.self _ _ _ c.shade_nth.ensures.rest c.self.invariant

pub returns-clause-nth : goal.returns-clause-nth
returns-clause-nth c = nth_is _ c.self.inside.graph c.self.inside.kept.entries c.self.view_is c.shade_nth.new.self c.shade_nth.ensures.rest c.args.n c.args.shade c.shade_nth.ensures.nth

pub returns-clause-rest : goal.returns-clause-rest
returns-clause-rest c = rest_is _ c.self.inside.graph c.self.inside.kept.entries c.self.view_is c.shade_nth.new.self c.shade_nth.ensures.rest
