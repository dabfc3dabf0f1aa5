use Rattle.heap_tables.proofs.Changing.{added_changed}
use Rattle.heap_tables.proofs.laws.an_added_block_changes_the_graph.Goals as goal

pub returns : goal.returns
returns c = added_changed
