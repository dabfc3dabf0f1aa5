use Rattle.escape_plan.specs.Moving.{Told}
use Rattle.zone_escape.specs.Telling.{below, emptied, stands_at}
use Rattle.zone_escape.proofs.leaving.let_registers_go.Given as goal

abbrev pub invariant-loop-n : goal.invariant-loop-n
invariant-loop-n l = Told (emptied l.local) l.fn.heap l.heap (below (stands_at l.local) l.n)
