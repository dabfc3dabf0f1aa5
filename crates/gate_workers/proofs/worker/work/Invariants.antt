use Rattle.std.proofs.Common.{◌≡◌, ◌++◌}
use Rattle.zone_gate.specs.Shown.{IsSeatOf}
use Rattle.gate_workers.specs.Workers.{written}
use Rattle.gate_workers.proofs.worker.work.Given as goal

abbrev pub invariant-loop-line : goal.invariant-loop-line
invariant-loop-line g l = record {
  of : IsSeatOf l.fn.gate l.seat;
  thread : l.seat.thread ≡ l.fn.job.seat.thread;
  own : l.seat.own ++ written l.fn.job.seat.thread l.line-iterator.rest.items ≡ l.fn.job.seat.own ++ written l.fn.job.seat.thread l.fn.job.lines.items;
}
