use Rattle.block_table.proofs.Marked.{begun_has, marked_lying, rest_is, shade_is}
use Rattle.block_table.proofs.table.BlockTable.set_shade.Goals as goal

pub set_shade-requires : goal.set_shade-requires
set_shade-requires c = begun_has _ c.self.inside.graph c.self.inside.kept.entries c.self.view_is c.args.id c.requires

pub invariant_of-self : goal.invariant_of-self
invariant_of-self c = marked_lying c.self.inside.graph c.set_shade.new.self _ _ _ c.set_shade.ensures.rest c.self.invariant

pub returns-clause-shade : goal.returns-clause-shade
returns-clause-shade c = shade_is _ c.self.inside.graph c.self.inside.kept.entries c.self.view_is c.set_shade.new.self c.set_shade.ensures.rest c.args.id c.args.shade c.set_shade.ensures.shade

pub returns-clause-rest : goal.returns-clause-rest
returns-clause-rest c = rest_is _ c.self.inside.graph c.self.inside.kept.entries c.self.view_is c.set_shade.new.self c.set_shade.ensures.rest
