use Rattle.std.proofs.Common.{refl, ap, ◌∙◌}
use Rattle.zone_model.specs.declared.call.Call.TheVariants as call
use Rattle.zone_model.specs.State.{reference}
use Rattle.shared_heap.specs.Shared.{Shared}
use Rattle.shared_heap.proofs.Shut.{closed}
use Rattle.local_set.specs.LocalSets.{part_in}
use Rattle.zone_escape.proofs.Exposed.{holder_there, register_out, nothing_escapes}
use Rattle.zone_escape.proofs.Making.{runs, in_register, answered}
use Rattle.zone_escape.proofs.Shown.{is_shared}
use Rattle.zone_escape.proofs.Stored.{not_within, store_still, write_holds, write_room, write_options}
use Rattle.zone_escape.proofs.OpenCycles.{livened}
use Rattle.zone_escape.proofs.words.store_seen.Goals as goal

pub store-requires-clause-given : goal.store-requires-clause-given
store-requires-clause-given c =
    holder_there c.args.local.now c.args.heap.now (call.Store c.args.into c.args.at c.args.from) c.requires.can c.args.into c.register-holder.result c.register-holder.ensures (not_within (part_in c.args.local.now) _ c.requires.can.shared)

pub store-requires-clause-escaped : goal.store-requires-clause-escaped
store-requires-clause-escaped c =
    holder_there c.args.local.now c.args.heap.now (call.Store c.args.into c.args.at c.args.from) c.requires.can c.args.from c.register-value.result c.register-value.ensures c.requires.seen

pub returns-clause-makes : goal.returns-clause-makes
returns-clause-makes c =
    let l = c.args.local.now in
    let h = c.args.heap.now in
    let the_call = call.Store c.args.into c.args.at c.args.from in
    let can = c.requires.can in
    let a = c.register-holder.result in
    let v = c.register-value.result in
    let w = reference v in
    let r = c.in-Ok.reply in
    let e = c.in-Ok.ensures in
    let outside = not_within (part_in l) _ can.shared in
    answered l h the_call can c.store.new.self r c.thread.result c.thread.ensures (ap (λ (s : Shared). s.holds) e.value ∙ write_holds h a c.args.at w r) (ap (λ (s : Shared). s.room) e.value ∙ write_room h a c.args.at w r)
    (ap (λ (s : Shared). s.options) e.value ∙ write_options h a c.args.at w r) refl (λ z t.
    let into = register_out l h the_call can c.args.into a c.register-holder.ensures outside z t in
    let from = register_out l h the_call can c.args.from v c.register-value.ensures c.requires.seen z t in (
      (is_shared z (z.registers l.thread c.args.into) into, is_shared z (z.registers l.thread c.args.from) from),
      (λ id n. nothing_escapes h z (z.registers l.thread c.args.from) t.heap from id n.1),
      store_still z l.thread c.args.into c.args.at c.args.from r into,
      e.step z c.args.into c.args.from (runs l h the_call can c.thread.result c.thread.ensures z t) (closed z t.heap.sound) (in_register l h the_call can c.thread.result c.thread.ensures c.args.into a c.register-holder.ensures z t)
          (in_register l h the_call can c.thread.result c.thread.ensures c.args.from v c.register-value.ensures z t),
    ))

pub returns-clause-cycle : goal.returns-clause-cycle
returns-clause-cycle c = livened c.args.heap.now c.store.new.self c.in-Ok.reply _ _ c.in-Ok.ensures.gc
