use Rattle.std.proofs.Common.{◌-◌, replicate}
use Rattle.zone_model.specs.declared.call.Call.TheVariants as call
use Rattle.zone_model.specs.Phases.{Settling}
use Rattle.play_core.specs.Collecting.{PublishesCalls}
use Rattle.play_core.specs.Worlds.{AtEnd}
use Rattle.play_core.proofs.collecting.finalise_all.Given as goal

abbrev pub invariant-loop : goal.invariant-loop
invariant-loop l = record {
  so_far : PublishesCalls l.fn.world l.world l.thread (replicate l.counter call.Finalise);
  settling : AtEnd l.world (λ z. Settling (l.end - l.counter) z l.thread);
}
