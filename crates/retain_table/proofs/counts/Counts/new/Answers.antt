use Rattle.std.proofs.Common.{arith}
use Rattle.retain_table.proofs.Counting.{positive-empty}
use Rattle.retain_table.proofs.counts.Counts.new.Goals as goal

pub invariant_of-result : goal.invariant_of-result
invariant_of-result c = (positive-empty c.new.result.entries c.new.ensures.empty, omega arith)
