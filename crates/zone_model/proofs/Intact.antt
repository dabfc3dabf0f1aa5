-- What of a sound state also holds in the midst of a step, before an open cycle has seen what the call did
use Rattle.std.proofs.Common.{◌≤◌}
use Rattle.zone_model.specs.State.{State}
use Rattle.zone_model.specs.Quanta.{used_quanta}
use Rattle.zone_model.specs.Sound.{NamesKnown, CycleKnown}

pub record Intact (z : State) : Type 0 where
  pub names : NamesKnown z
  pub cycle : CycleKnown z
  pub used : used_quanta z ≤ z.options.heap_quanta
