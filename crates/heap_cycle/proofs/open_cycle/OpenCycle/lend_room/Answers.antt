use Rattle.std.proofs.Common.{refl}
use Rattle.heap_cycle.proofs.Lending.{lending_collects, lent_one}
use Rattle.heap_cycle.proofs.open_cycle.OpenCycle.lend_room.Goals as goal

pub returns-clause-empty : goal.returns-clause-empty
returns-clause-empty c = λ t k. (lent_one t c.args.self.now (record c.args.self.now { lent = c.pop.new.self }) c.in-Some.list c.in-Some.ensures.items refl k).0

pub returns-clause-room : goal.returns-clause-room
returns-clause-room c = λ t k. (lent_one t c.args.self.now (record c.args.self.now { lent = c.pop.new.self }) c.in-Some.list c.in-Some.ensures.items refl k).1

pub returns-clause-collects : goal.returns-clause-collects
returns-clause-collects c = λ t k. lending_collects t c.args.self.now (record c.args.self.now { lent = c.pop.new.self }) c.in-Some.list c.in-Some.ensures.items refl k
