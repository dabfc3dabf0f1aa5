use Rattle.heap_cycle.proofs.Alike.{empty_collects}
use Rattle.heap_cycle.proofs.laws.empty_tables_collect.Goals as goal

pub returns : goal.returns
returns c = λ t blocks pairs list. empty_collects t blocks pairs list
