use Rattle.std.proofs.Common.{◌≡◌, ◌-◌, ◌+◌, suc, replicate, subst, arith}
use Rattle.zone_model.specs.declared.call.Call.TheVariants as call
use Rattle.zone_model.specs.Phases.{Settling}
use Rattle.play_core.specs.Collecting.{PublishesCalls}
use Rattle.play_core.specs.Worlds.{AtEnd}
use Rattle.play_core.proofs.Collections.{may_finalise, one_more, finalised_settles}
use Rattle.play_core.proofs.collecting.finalise_all.Goals as goal

pub close-requires-clause-may : goal.close-requires-clause-may
close-requires-clause-may c =
    let lt = c.loop-test.true in
    may_finalise c.loop.world c.args.thread (c.to_finalise-end.result - c.loop.counter) (omega (arith, lt)) c.loop.invariant.settling

pub loop-preserved : goal.loop-preserved
loop-preserved c =
    let i = c.loop.counter in
    let n = c.to_finalise-end.result in
    let lt = c.loop-test.true in
    let next : suc i ≡ i + 1 = omega arith in
    let left : n - i ≡ suc (n - (i + 1)) = omega (arith, lt) in
    let closes = c.close.ensures in
    record {
      so_far = subst (λ k. PublishesCalls c.args.world.now c.close.new.world c.args.thread (replicate k call.Finalise)) next (one_more c.args.world.now c.loop.world c.close.new.world c.args.thread i closes.0 c.loop.invariant.so_far closes.1);
      settling = finalised_settles c.loop.world c.close.new.world c.args.thread (n - (i + 1)) closes.0 (subst (λ k. AtEnd c.loop.world (λ z. Settling k z c.args.thread)) left c.loop.invariant.settling) closes.1;
    }
