use Rattle.heap_tables.proofs.Showing.{shows}
use Rattle.heap_tables.proofs.laws.tables_show_their_states.Goals as goal

pub returns : goal.returns
returns c = λ m t z are stands tell. shows m t z are stands tell
