use Rattle.std.proofs.Common.{refl}
use Rattle.zone_model.specs.declared.call.Call.TheVariants as call
use Rattle.local_set.specs.LocalSets.{part_in}
use Rattle.zone_escape.proofs.Exposed.{holder_there}
use Rattle.zone_escape.proofs.Making.{runs, in_register, answered}
use Rattle.zone_escape.proofs.Stored.{not_within}
use Rattle.zone_escape.proofs.words.get.Goals as goal

pub get-requires : goal.get-requires
get-requires c = record { given = holder_there c.args.local.now c.args.heap.now (call.Get c.args.from c.args.at) c.requires c.args.from c.register-holder.result c.register-holder.ensures (not_within (part_in c.args.local.now) _ c.requires.shared) }

pub returns : goal.returns
returns c =
    let l = c.args.local.now in
    let h = c.args.heap.now in
    let the_call = call.Get c.args.from c.args.at in
    answered l h the_call c.requires h c.get.result c.thread.result c.thread.ensures refl refl refl refl
    (λ z t. (
      tt,
      (λ id n. n),
      refl,
      c.get.ensures.step z c.args.from (runs l h the_call c.requires c.thread.result c.thread.ensures z t) (in_register l h the_call c.requires c.thread.result c.thread.ensures c.args.from c.register-holder.result c.register-holder.ensures z t),
    ))
