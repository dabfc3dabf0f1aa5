use Rattle.std.proofs.Common.{take}
use Rattle.escape_plan.specs.Moving.{Told}
use Rattle.zone_escape.specs.Telling.{emptied, refer_from}
use Rattle.zone_escape.proofs.leaving.let_blocks_go.Given as goal

abbrev pub invariant-loop-id : goal.invariant-loop-id
invariant-loop-id l = Told (emptied l.local) l.fn.heap l.heap (refer_from l.local (take l.id-index l.ids))
