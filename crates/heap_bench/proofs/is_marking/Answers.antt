use Rattle.std.proofs.Common.{sym, ◌∙◌}
use Rattle.heap_bench.proofs.Opened.{marks}
use Rattle.heap_bench.proofs.is_marking.Goals as goal

pub returns-then-eq : goal.returns-then-eq
returns-then-eq c white = marks c.args.heap.now.gc.cycle c.in-Some.cycle c.args.thread (sym c.cycle.ensures.value ∙ c.in-Some.is) (sym c.eq.ensures ∙ c.if-eq.true) white
