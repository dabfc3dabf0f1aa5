use Rattle.heap_tables.proofs.Changing.{associated_changed}
use Rattle.heap_tables.proofs.laws.an_association_changes_the_graph.Goals as goal

pub returns : goal.returns
returns c = associated_changed
