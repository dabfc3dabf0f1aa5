use Rattle.std.proofs.Common.{◌≡◌, ◌++◌, map, Ok}
use Rattle.run_zone.proofs.running.ended_of.Given as goal

abbrev pub invariant-loop-result : goal.invariant-loop-result
invariant-loop-result l = l.fn.results.items ≡ map Ok l.all.items ++ l.result-iterator.rest.items
