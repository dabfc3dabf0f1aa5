use Rattle.std.proofs.Common.{All, take}
use Rattle.zone_model.specs.InRange.{ActionInRange}
use Rattle.zone_escape.proofs.ranges.actions_in_range.Given as goal

abbrev pub invariant-loop-action : goal.invariant-loop-action
invariant-loop-action l = All ActionInRange (take l.action-index l.action-items)
