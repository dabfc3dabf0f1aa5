use Rattle.shared_heap.proofs.Collecting.{free_of}
use Rattle.zone_escape.proofs.Ended.{left}
use Rattle.std.proofs.Common.{ap, option_map, refl}
use Rattle.heap_cycle.specs.Livening.{unshaded}
use Rattle.shared_heap.specs.Shared.{Shared}
use Rattle.zone_escape.proofs.leaving.leave.Goals as goal

pub returns-clause-ok : goal.returns-clause-ok
returns-clause-ok c = left c.args.local.now c.clear.new.self c.args.heap.now c.let_all_go.new.heap c.in_ok-gone.gone c.requires c.in_ok-gone.ensures c.let_all_go.ensures c.clear.ensures.part c.clear.ensures.rest
    (λ z t. free_of c.args.heap.now z c.args.local.now.thread t.heap.stands (c.requires.free refl))

pub returns-clause-cycle : goal.returns-clause-cycle
returns-clause-cycle c = ap (λ (s : Shared). option_map unshaded s.gc.cycle) c.let_all_go.ensures.2.rest
