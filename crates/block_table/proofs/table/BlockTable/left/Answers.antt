use Rattle.block_table.proofs.Marked.{left_is}
use Rattle.block_table.proofs.table.BlockTable.left.Goals as goal

pub returns : goal.returns
returns c = left_is _ c.self.inside.graph c.self.inside.kept.entries c.self.view_is c.args.mode c.args.n c.left.result c.left.ensures
