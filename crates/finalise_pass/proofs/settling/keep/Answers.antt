use Rattle.std.proofs.Common.{◌∙◌, arith, refl}
use Rattle.quantum_space.proofs.Lists.{filter_next}
use Rattle.finalise_pass.proofs.settling.keep.Goals as goal

pub loop-n-preserved : goal.loop-n-preserved
loop-n-preserved g c =
    let i = c.loop-n.invariant in
    record {
      kept = c.keep_nth.ensures.nth ∙ rw (i.kept, filter_next) refl;
      room = omega (arith, i.room, c.keep_nth.ensures.room);
    }
