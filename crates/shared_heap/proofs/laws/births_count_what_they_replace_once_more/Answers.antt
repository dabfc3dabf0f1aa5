use Rattle.shared_heap.proofs.Shut.{holds_its_own, next_unused}
use Rattle.shared_heap.proofs.Unheld.{born_once_more}
use Rattle.shared_heap.proofs.laws.births_count_what_they_replace_once_more.Goals as goal

pub returns : goal.returns
returns c = λ h new z after t to layout actions r few s born agree bore step.
    born_once_more z after t to layout actions h new r few (holds_its_own z s) (next_unused z t s) born agree bore step
