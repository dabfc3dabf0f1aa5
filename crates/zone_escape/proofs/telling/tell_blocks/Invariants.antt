use Rattle.std.proofs.Common.{take}
use Rattle.az_base.specs.Ids.{among}
use Rattle.escape_plan.specs.Moving.{Told}
use Rattle.zone_escape.proofs.telling.tell_blocks.Given as goal

abbrev pub invariant-loop-id : goal.invariant-loop-id
invariant-loop-id l = Told l.local l.fn.heap l.heap (among (take l.id-index l.ids))
