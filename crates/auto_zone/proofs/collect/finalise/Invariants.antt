use Rattle.std.proofs.Common.{◌≡◌, ◌+◌, [], ℕ, replicate}
use Rattle.zone_model.specs.declared.call.Call.TheVariants as call
use Rattle.zone_model.specs.Phases.{Settling}
use Rattle.auto_zone.specs.Sessions.{AlwaysIn}
use Rattle.auto_zone.specs.Collects.{Steps}
use Rattle.auto_zone.proofs.collect.finalise.Given as goal

abbrev pub invariant-loop-left : goal.invariant-loop-left
invariant-loop-left g l = record {
  always : AlwaysIn (Settling l.left) l.seat l.local;
  out : l.local.waiting ≡ [];
  steps : (n : ℕ) × Steps l.fn.seat l.seat (replicate n call.Finalise) × (n + l.left ≡ l.fn.left);
}

abbrev pub decreases-loop-left : goal.decreases-loop-left
decreases-loop-left g l = l.left
