use Rattle.std.proofs.Common.{take}
use Rattle.retain_table.proofs.Nearest.{IsNearest}
use Rattle.retain_table.proofs.counts.Counts.next_held.Given as goal

abbrev pub invariant-loop-n : goal.invariant-loop-n
invariant-loop-n l = IsNearest l.from (take l.n l.self.order) l.next
