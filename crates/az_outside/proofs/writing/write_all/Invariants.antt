use Rattle.std.proofs.Common.{ℕ, length, ◌-◌, ◌≤◌, take}
use Rattle.az_outside.specs.Turns.{Turns}
use Rattle.az_outside.proofs.writing.write_all.Given as goal

abbrev pub invariant-turns : goal.invariant-turns
invariant-turns g l = (l.done ≤ length l.bytes)
    × g.O.Sink.grew l.initial.sink l.sink (take l.done l.bytes)
    × (g.O.Sink.faults l.initial.sink ≤ g.O.Sink.faults l.sink)
    × ((turns : ℕ) × Turns g.O.Sink.wrote l.bytes turns l.done l.initial.sink l.sink)

abbrev pub decreases-turns : goal.decreases-turns
decreases-turns g l = length l.bytes - l.done
