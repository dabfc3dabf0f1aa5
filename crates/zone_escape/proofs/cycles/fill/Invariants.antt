use Rattle.std.proofs.Common.{◌≡◌, ◌≤◌, ◌+◌, length, take}
use Rattle.zone_escape.proofs.cycles.fill.Given as goal

abbrev pub invariant-loop-id : goal.invariant-loop-id
invariant-loop-id l = record { list : l.filled.list ≡ take l.id-index l.ids; room : length l.ids ≤ l.filled.spare + l.id-index }
