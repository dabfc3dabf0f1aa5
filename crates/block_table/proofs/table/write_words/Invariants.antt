use Rattle.block_table.specs.Lying.{IsWrittenTo}
use Rattle.block_table.proofs.table.write_words.Given as goal

abbrev pub invariant-loop-n : goal.invariant-loop-n
invariant-loop-n l = IsWrittenTo l.fn.graph l.spot l.words l.n l.graph
