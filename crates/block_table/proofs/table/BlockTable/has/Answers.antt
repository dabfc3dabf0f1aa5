use Rattle.std.proofs.Common.{◌∙◌}
use Rattle.block_table.proofs.Told.{there_is}
use Rattle.block_table.proofs.table.BlockTable.has.Goals as goal

pub returns : goal.returns
returns c = c.has.ensures ∙ there_is _ c.self.inside.graph c.self.inside.kept.entries c.self.view_is c.args.id
