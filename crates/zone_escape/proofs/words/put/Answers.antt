use Rattle.std.proofs.Common.{refl, ap, ◌∙◌}
use Rattle.az_base.specs.declared.word.Word.TheVariants as word
use Rattle.zone_model.specs.declared.call.Call.TheVariants as call
use Rattle.shared_heap.specs.Shared.{Shared}
use Rattle.local_set.specs.LocalSets.{part_in}
use Rattle.zone_escape.proofs.Exposed.{holder_there, register_out}
use Rattle.zone_escape.proofs.Making.{runs, in_register, answered}
use Rattle.zone_escape.proofs.Shown.{is_shared}
use Rattle.zone_escape.proofs.Stored.{not_within, put_still, write_holds, write_room, write_options}
use Rattle.zone_escape.proofs.OpenCycles.{write_keeps}
use Rattle.zone_escape.proofs.words.put.Goals as goal

pub put-requires : goal.put-requires
put-requires c = record { given = holder_there c.args.local.now c.args.heap.now (call.Put c.args.into c.args.at c.args.number) c.requires c.args.into c.register-holder.result c.register-holder.ensures (not_within (part_in c.args.local.now) _ c.requires.shared) }

pub returns-clause-makes : goal.returns-clause-makes
returns-clause-makes c =
    let l = c.args.local.now in
    let h = c.args.heap.now in
    let the_call = call.Put c.args.into c.args.at c.args.number in
    let a = c.register-holder.result in
    let w = word.Number c.args.number in
    let r = c.put.result in
    let value = c.put.ensures.value in
    answered l h the_call c.requires c.put.new.self r c.thread.result c.thread.ensures (ap (λ (s : Shared). s.holds) value ∙ write_holds h a c.args.at w r) (ap (λ (s : Shared). s.room) value ∙ write_room h a c.args.at w r)
    (ap (λ (s : Shared). s.options) value ∙ write_options h a c.args.at w r) refl (λ z t.
    let out = register_out l h the_call c.requires c.args.into a c.register-holder.ensures (not_within (part_in c.args.local.now) _ c.requires.shared) z t in (
      is_shared z (z.registers l.thread c.args.into) out,
      (λ id n. n),
      put_still z l.thread c.args.into c.args.at c.args.number r out,
      c.put.ensures.step z c.args.into (runs l h the_call c.requires c.thread.result c.thread.ensures z t) (in_register l h the_call c.requires c.thread.result c.thread.ensures c.args.into a c.register-holder.ensures z t),
    ))

pub returns-clause-cycle : goal.returns-clause-cycle
returns-clause-cycle c = write_keeps c.args.heap.now c.put.new.self c.register-holder.result c.args.at (word.Number c.args.number) c.put.result c.put.ensures.value
