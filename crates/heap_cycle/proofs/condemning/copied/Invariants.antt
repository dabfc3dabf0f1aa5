use Rattle.std.proofs.Common.{◌≡◌, ◌≤◌, ◌+◌, length, take}
use Rattle.heap_cycle.proofs.condemning.copied.Given as goal

abbrev pub invariant-loop-id : goal.invariant-loop-id
invariant-loop-id l = record {
  copied : l.copy.list ≡ take l.id-index l.ids;
  room : length l.ids ≤ l.copy.spare + l.id-index;
}
