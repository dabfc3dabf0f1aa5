use Rattle.std.proofs.Common.{◌≡◌, ◌≤◌, [], map, take, drop, length}
use Rattle.std.specs.Vec.{vec_capacity}
use Rattle.zone_gate.specs.Owning.{fresh}
use Rattle.zone_gate.specs.Shown.{new_seat}
use Rattle.zone_gate.specs.Views.{resting}
use Rattle.zone_gate.proofs.gather.deal_seats.Given as goal

abbrev pub invariant-loop-thread : goal.invariant-loop-thread
invariant-loop-thread g l =
    (l.token.table_id ≡ l.fn.table.table_id) × (l.token.me ≡ (resting l.fn.token.me.0.options [] (fresh (drop l.thread-index l.threads)), []))
    × (l.seats.items ≡ map (new_seat l.fn.table.table_id l.fn.token.me.0.options) (take l.thread-index l.threads)) × (length l.threads ≤ vec_capacity l.seats)
