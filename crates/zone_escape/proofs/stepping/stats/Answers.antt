use Rattle.std.proofs.Common.{refl}
use Rattle.zone_model.specs.declared.call.Call.TheVariants as call
use Rattle.zone_escape.proofs.Making.{answered, runs}
use Rattle.zone_escape.proofs.stepping.stats.Goals as goal

pub returns : goal.returns
returns c =
    let l = c.args._local.now in
    let h = c.args.heap.now in
    answered l h call.Stats c.requires h _ l.thread refl refl refl refl refl (λ z t. (tt, λ id n. n, refl, c.stats.ensures.step z l.thread (runs l h call.Stats c.requires l.thread refl z t)))
