use Rattle.quantum_space.proofs.Cursors.{cursors_none, zeros}
use Rattle.quantum_space.proofs.admin_map.AdminMap.new.Goals as goal

pub invariant_of-result : goal.invariant_of-result
invariant_of-result c = rw (c.new.ensures.items, c.new-2.ensures.items) (cursors_none c.args.size _ (zeros 33))
