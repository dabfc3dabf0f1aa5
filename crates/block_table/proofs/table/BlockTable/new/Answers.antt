use Rattle.block_table.proofs.Begun.{empty_lying, empty_table}
use Rattle.block_table.proofs.table.BlockTable.new.Goals as goal

pub invariant_of-result : goal.invariant_of-result
invariant_of-result c = empty_lying c.new.result c.new-2.result.entries _ c.new.ensures.rows c.new.ensures.began c.new.ensures.spare c.new-2.ensures.empty

pub returns : goal.returns
returns c = empty_table c.new.result c.new-2.result.entries c.new.ensures.rows c.new.ensures.began c.new.ensures.spare
