use Rattle.heap_tables.proofs.Fronts.{once_take}
use Rattle.heap_tables.proofs.graph.TablesGraph.block_count.Goals as goal

pub returns-clause-once : goal.returns-clause-once
returns-clause-once c = once_take c.args.self.now.blocks.order c.args.self.now.blocks.began c.len-len.ensures.table.once
