use Rattle.std.proofs.Common.{refl}
use Rattle.shared_heap.proofs.Numbers.{number_is}
use Rattle.shared_heap.proofs.Stepping.{stats_step}
use Rattle.shared_heap.proofs.heap.Heap.stats.Goals as goal

pub returns-clause-value : goal.returns-clause-value
returns-clause-value c = rw (← c.self.view_is, number_is c.self.inside.tables.blocks c.len.ensures.table, c.from.ensures, c.len.ensures.value, c.used.ensures, c.len-2.ensures.value, c.registered.ensures, c.len-3.ensures) refl

pub returns-clause-step : goal.returns-clause-step
returns-clause-step c = λ z t runs. stats_step c.args.self.now z t _ runs (rw (← c.self.view_is, number_is c.self.inside.tables.blocks c.len.ensures.table, c.from.ensures, c.len.ensures.value, c.used.ensures, c.len-2.ensures.value, c.registered.ensures, c.len-3.ensures) refl)
