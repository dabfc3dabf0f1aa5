use Rattle.zone_model.proofs.Ranges.{opening_ranges, step_ranges}
use Rattle.zone_model.proofs.laws.soundness.registers_and_roots_stay_in_range.Goals as goal

pub returns-clause-opening : goal.returns-clause-opening
returns-clause-opening c = opening_ranges

pub returns-clause-step : goal.returns-clause-step
returns-clause-step c = step_ranges
