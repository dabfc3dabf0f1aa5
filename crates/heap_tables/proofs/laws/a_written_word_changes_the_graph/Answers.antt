use Rattle.heap_tables.proofs.Changing.{written_changed}
use Rattle.heap_tables.proofs.laws.a_written_word_changes_the_graph.Goals as goal

pub returns : goal.returns
returns c = written_changed
