use Rattle.std.proofs.Common.{◌≡◌, ◌++◌, map, length}
use Rattle.gate_workers.proofs.running.jobs_of.Given as goal

abbrev pub invariant-loop-seat : goal.invariant-loop-seat
invariant-loop-seat l = record {
  seats : l.fn.seats.items ≡ map (λ j. j.seat) l.jobs.items ++ l.seat-iterator.rest.items;
  lines : l.fn.lines.items ≡ map (λ j. j.lines) l.jobs.items ++ l.rest.rest.items;
  long : length l.seat-iterator.rest.items ≡ length l.rest.rest.items;
}
