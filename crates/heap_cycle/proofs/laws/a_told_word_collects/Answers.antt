use Rattle.heap_cycle.proofs.Written.{written_collects}
use Rattle.heap_cycle.proofs.laws.a_told_word_collects.Goals as goal

pub returns : goal.returns
returns c = λ t o id at w k there told. written_collects t o id at w k there told
