use Rattle.std.proofs.Common.{false, refl, sym, ap, ◌∙◌}
use Rattle.std.specs.Option.{option_map_or}
use Rattle.zone_model.specs.declared.call.Call.TheVariants as call
use Rattle.zone_model.specs.declared.entry.Reply.TheVariants as reply
use Rattle.zone_model.specs.Part.{is_in}
use Rattle.local_set.specs.LocalSets.{part_in}
use Rattle.zone_escape.proofs.Counted.{own_block, own_counted}
use Rattle.zone_escape.proofs.Exposed.{holder_there}
use Rattle.zone_escape.proofs.Making.{runs, in_register, answered}
use Rattle.zone_escape.proofs.counts.count.Goals as goal

pub returns-then-is_own : goal.returns-then-is_own
returns-then-is_own c =
    let l = c.args.local.now in
    let h = c.args.heap.now in
    let the_call = call.Count c.args.reg in
    let own = own_block l ((part_in l).registers c.args.reg) (ap (λ o. option_map_or (is_in (part_in l)) o false) (sym c.register.ensures) ∙ sym c.is_own.ensures ∙ c.if-is_own.true) in
    answered l h the_call c.requires h (reply.Number 0) l.thread refl refl refl refl refl (λ z t. (tt, (λ id n. n), refl, own_counted l h the_call c.requires c.args.reg own.0 own.1 own.2 z t))

pub count-requires : goal.count-requires
count-requires c =
    let l = c.args.local.now in
    record {
      given = holder_there l c.args.heap.now (call.Count c.args.reg) c.requires c.args.reg c.register.result c.register.ensures (ap (λ o. option_map_or (is_in (part_in l)) o false) (sym c.register.ensures) ∙ sym c.is_own.ensures ∙ c.if-is_own.false);
    }

pub returns : goal.returns
returns c =
    let l = c.args.local.now in
    let h = c.args.heap.now in
    let the_call = call.Count c.args.reg in
    answered l h the_call c.requires h c.count.result c.thread.result c.thread.ensures refl refl refl refl
    (λ z t. (
      tt,
      (λ id n. n),
      refl,
      c.count.ensures.step z c.args.reg (runs l h the_call c.requires c.thread.result c.thread.ensures z t) (in_register l h the_call c.requires c.thread.result c.thread.ensures c.args.reg c.register.result c.register.ensures z t),
    ))
