use Rattle.zone_model.specs.Phases.{Marking}
use Rattle.auto_zone.specs.Sessions.{AlwaysIn}
use Rattle.auto_zone.specs.Collects.{NewSlices}
use Rattle.auto_zone.proofs.collect.mark.Given as goal

abbrev pub invariant-loop : goal.invariant-loop
invariant-loop g l = record {
  always : AlwaysIn Marking l.seat l.local;
  slices : NewSlices l.fn.seat l.seat l.fn.budget l.done;
}
