use Rattle.std.proofs.Common.{◌≡◌, ◌≤◌, ◌+◌, ◌++◌, length, map, All}
use Rattle.std.specs.Vec.{vec_capacity}
use Rattle.zone_gate.specs.Shown.{new_seat}
use Rattle.zone_escape.specs.Cores.{IsUnused}
use Rattle.auto_zone.proofs.zone.sessions_of.Given as goal

abbrev pub invariant-loop-seat : goal.invariant-loop-seat
invariant-loop-seat l = record {
  seats : l.fn.seats.items ≡ map (λ s. s.seat) l.sessions.items ++ l.seat-iterator.rest.items;
  unused : All (λ s. IsUnused s.local l.fn.options) l.sessions.items;
  room : length l.sessions.items + length l.seat-iterator.rest.items ≤ vec_capacity l.sessions;
  left : All (λ s. s ≡ new_seat s.gate l.fn.options s.thread) l.seat-iterator.rest.items;
}
