-- A world after a slice of marking
use Rattle.std.proofs.Common.{◌≡◌, ◌≤◌, List, sym, subst}
use Rattle.zone_model.specs.State.{State}
use Rattle.shared_heap.specs.Shared.{with_gc}
use Rattle.local_set.specs.LocalSets.{LocalSet}
use Rattle.zone_escape.specs.Cores.{CoreShown, IsCore, IsCoreOf}
use Rattle.zone_escape.proofs.Belonging.{untouched_belongs}
use Rattle.play_core.specs.Inside.{Keeps}

-- the sets belong to the core, which has the same state
pub keeps_sliced : (k n : CoreShown) (locals : List LocalSet) → IsCore k → n ≡ record k { heap = with_gc k.heap n.heap.gc } → ((z : State) → IsCoreOf k z → IsCoreOf n z) → Keeps k locals → Keeps n locals
keeps_sliced k n locals core value stays keeps = record {
  ascending = keeps.ascending;
  belongs = λ at l here. untouched_belongs l k n core stays (keeps.belongs at l here);
  pending = subst (λ (x : CoreShown). 1 ≤ x.heap.options.pending) (sym value) keeps.pending;
}
