use Rattle.std.proofs.Common.{subst}
use Rattle.block_space.specs.Tables.{Table', IsTable}
use Rattle.block_space.proofs.table.Table.len.Goals as goal

pub returns-clause-whole : goal.returns-clause-whole
returns-clause-whole c = subst (λ (v : Table'). IsTable v) c.self.view_is c.self.invariant.0
