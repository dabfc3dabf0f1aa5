use Rattle.shared_heap.proofs.Collecting.{free_of, marking_of, none_of, settling_of}
use Rattle.shared_heap.proofs.laws.cycles_are_those_of_the_state.Goals as goal

pub returns-clause-free : goal.returns-clause-free
returns-clause-free c = free_of

pub returns-clause-none : goal.returns-clause-none
returns-clause-none c = none_of

pub returns-clause-marking : goal.returns-clause-marking
returns-clause-marking c = marking_of

pub returns-clause-settling : goal.returns-clause-settling
returns-clause-settling c = settling_of
