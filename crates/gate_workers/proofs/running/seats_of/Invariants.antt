use Rattle.std.proofs.Common.{◌≡◌, ◌++◌, map, Ok}
use Rattle.gate_workers.proofs.running.seats_of.Given as goal

abbrev pub invariant-loop-result : goal.invariant-loop-result
invariant-loop-result l = l.fn.results.items ≡ map Ok l.seats.items ++ l.result-iterator.rest.items
