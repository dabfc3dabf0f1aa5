use Rattle.block_table.proofs.Marked.{each_is, marked_lying, outside_is, rest_is}
use Rattle.block_table.proofs.table.BlockTable.shade_all.Goals as goal

pub invariant_of-self : goal.invariant_of-self
invariant_of-self c = marked_lying c.self.inside.graph c.shade_all.new.self _ _ _ c.shade_all.ensures.rest c.self.invariant

pub returns-clause-each : goal.returns-clause-each
returns-clause-each c = each_is _ c.self.inside.graph c.self.inside.kept.entries c.self.view_is c.shade_all.new.self c.shade_all.ensures.rest c.args.shade c.shade_all.ensures.each

pub returns-clause-outside : goal.returns-clause-outside
returns-clause-outside c = outside_is _ c.self.inside.graph c.self.inside.kept.entries c.self.view_is c.shade_all.new.self c.shade_all.ensures.rest c.shade_all.ensures.outside

pub returns-clause-rest : goal.returns-clause-rest
returns-clause-rest c = rest_is _ c.self.inside.graph c.self.inside.kept.entries c.self.view_is c.shade_all.new.self c.shade_all.ensures.rest
