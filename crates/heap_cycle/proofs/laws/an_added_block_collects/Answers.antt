use Rattle.heap_cycle.proofs.Added.{added_collects}
use Rattle.heap_cycle.proofs.laws.an_added_block_collects.Goals as goal

pub returns : goal.returns
returns c = λ t u o id k m blocks cards pairs collects absent gone began age room live. added_collects t o id k m absent began collects gone age room live u blocks cards pairs
