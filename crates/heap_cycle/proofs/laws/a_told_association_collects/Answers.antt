use Rattle.heap_cycle.proofs.Associated.{associated_collects}
use Rattle.heap_cycle.proofs.laws.a_told_association_collects.Goals as goal

pub returns : goal.returns
returns c = λ t u o a key v blocks cards pairs k there told. associated_collects t o a key v k there told u blocks cards pairs
