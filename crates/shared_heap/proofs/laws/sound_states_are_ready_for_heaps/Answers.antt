use Rattle.shared_heap.proofs.Shut.{closed, holds_its_own, next_unused}
use Rattle.shared_heap.proofs.laws.sound_states_are_ready_for_heaps.Goals as goal

pub returns-clause-closed : goal.returns-clause-closed
returns-clause-closed c = closed

pub returns-clause-own : goal.returns-clause-own
returns-clause-own c = holds_its_own

pub returns-clause-next : goal.returns-clause-next
returns-clause-next c = λ z t s. next_unused z t s
