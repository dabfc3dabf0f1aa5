use Rattle.std.proofs.Common.{◌≡◌, ◌<◌, length}
use Rattle.escape_plan.specs.Moving.{Told}
use Rattle.zone_escape.specs.Telling.{below, moved_at}
use Rattle.zone_escape.proofs.telling.tell_registers.Given as goal

abbrev pub invariant-loop-n : goal.invariant-loop-n
invariant-loop-n l = record {
  told : Told l.local l.fn.heap l.heap (below (moved_at l.local) l.n);
  sixteen : 0 < l.n → length l.local.published ≡ 16;
}
