use Rattle.std.proofs.Common.{◌<◌, length, ap, arith}
use Rattle.gate_workers.proofs.running.jobs_of.Goals as goal

pub unreachable-requires : goal.unreachable-requires
unreachable-requires c =
    let some : 0 < length c.loop-seat.seat-iterator.rest.items = let h = ap length c.in-Some.ensures.steps.0 in omega (arith, h) in
    let same = c.loop-seat.invariant.long in
    let full = c.loop-seat.rest.rest.ok.0 in
    let none = c.in_default.ensures.cases.0 in
    omega (arith, some, same, full, none)
