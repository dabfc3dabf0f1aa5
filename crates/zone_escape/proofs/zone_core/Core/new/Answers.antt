use Rattle.zone_model.specs.State.{opening}
use Rattle.zone_escape.proofs.Cores.{new_core}
use Rattle.zone_escape.proofs.zone_core.Core.new.Goals as goal

pub returns-clause-opened : goal.returns-clause-opened
returns-clause-opened c = new_core c.args.options c.in_ok-heap.heap c.new-2.result c.in_ok-heap.ensures.value c.in_ok-heap.ensures.stands c.new-2.ensures.entries c.new-2.ensures.owed

pub invariant_of-result : goal.invariant_of-result
invariant_of-result c = (opening c.args.options, returns-clause-opened c)
