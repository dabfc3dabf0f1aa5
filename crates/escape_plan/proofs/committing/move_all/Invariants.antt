use Rattle.std.proofs.Common.{◌≡◌, drop, take}
use Rattle.az_base.specs.Ids.{among}
use Rattle.zone_model.specs.State.{State}
use Rattle.zone_model.specs.Escape.{with_escaped}
use Rattle.escape_plan.specs.Escapes.{KeepsCycle}
use Rattle.escape_plan.specs.Moving.{Agree, CanMove}
use Rattle.escape_plan.proofs.committing.move_all.Given as goal

abbrev pub invariant-loop-id : goal.invariant-loop-id
invariant-loop-id l = record {
  rest : CanMove l.local l.heap (drop l.id-index l.ids);
  agree : (z : State) → Agree l.fn.local l.fn.heap z → Agree l.local l.heap (with_escaped z (among (take l.id-index l.ids)));
  local : l.local ≡ record l.fn.local { blocks = l.local.blocks };
  ready : l.heap.ready ≡ l.fn.heap.ready;
  cycle : KeepsCycle l.fn.heap l.heap;
}
