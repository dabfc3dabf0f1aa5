use Rattle.std.proofs.Common.{refl}
use Rattle.heap_bench.proofs.reclaim.Goals as goal

pub reclaim-requires-clause-settling : goal.reclaim-requires-clause-settling
reclaim-requires-clause-settling c = c.if-is_settling.ensures refl
