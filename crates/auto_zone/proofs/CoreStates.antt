-- The state of a core
use Rattle.std.proofs.Common.{subst}
use Rattle.zone_model.specs.State.{State, opening}
use Rattle.zone_model.proofs.Determined.{run_determined}
use Rattle.zone_escape.specs.Cores.{CoreShown, IsCore, IsCoreOf}
use Rattle.auto_zone.specs.Shown.{StateOf}

-- the state at the journal's end is the one of which the heap has what is shared
pub is_core_of : (k : CoreShown) → IsCore k → (z : State) → StateOf k z → IsCoreOf k z
is_core_of k core z ends = subst (IsCoreOf k) (run_determined (opening k.heap.options) k.journal.entries core.0 z core.1.ends ends) core.1
