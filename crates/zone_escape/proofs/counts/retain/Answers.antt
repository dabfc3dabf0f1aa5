use Rattle.std.proofs.Common.{◌≡◌, false, refl, sym, ap, ◌∙◌}
use Rattle.std.specs.Option.{option_map_or}
use Rattle.zone_model.specs.declared.call.Call.TheVariants as call
use Rattle.zone_model.specs.Part.{is_in}
use Rattle.shared_heap.specs.Shared.{Shared}
use Rattle.shared_heap.proofs.Shut.{closed}
use Rattle.local_set.specs.LocalSets.{part_in}
use Rattle.zone_escape.proofs.Counted.{retain_holds, retain_room, retain_options}
use Rattle.zone_escape.proofs.Exposed.{holder_there, register_out, nothing_escapes}
use Rattle.zone_escape.proofs.Making.{runs, in_register, answered}
use Rattle.zone_escape.proofs.Shown.{is_shared}
use Rattle.zone_escape.proofs.OpenCycles.{retain_keeps}
use Rattle.zone_escape.proofs.counts.retain.Goals as goal

pub retain-requires : goal.retain-requires
retain-requires c =
    let l = c.args.local.now in
    record {
      given = holder_there l c.args.heap.now (call.Retain c.args.reg) c.requires c.args.reg c.register.result c.register.ensures (ap (λ o. option_map_or (is_in (part_in l)) o false) (sym c.register.ensures) ∙ sym c.is_own.ensures ∙ c.if-is_own.false);
    }

pub returns-clause-ok : goal.returns-clause-ok
returns-clause-ok c =
    let l = c.args.local.now in
    let h = c.args.heap.now in
    let the_call = call.Retain c.args.reg in
    let a = c.register.result in
    let r = c.in_ok-reply.reply in
    let k = c.retain.new.self in
    let e = c.in_ok-reply.ensures in
    let other : option_map_or (is_in (part_in l)) ((part_in l).registers c.args.reg) false ≡ false = ap (λ o. option_map_or (is_in (part_in l)) o false) (sym c.register.ensures) ∙ sym c.is_own.ensures ∙ c.if-is_own.false in
    answered l h the_call c.requires k r c.thread.result c.thread.ensures (ap (λ (s : Shared). s.holds) e.value ∙ retain_holds h a k.ready.counts r) (ap (λ (s : Shared). s.room) e.value ∙ retain_room h a k.ready.counts r)
    (ap (λ (s : Shared). s.options) e.value ∙ retain_options h a k.ready.counts r) refl (λ z t.
    let out = register_out l h the_call c.requires c.args.reg a c.register.ensures other z t in (
      is_shared z (z.registers l.thread c.args.reg) out,
      nothing_escapes h z (z.registers l.thread c.args.reg) t.heap out,
      refl,
      e.step z c.args.reg (runs l h the_call c.requires c.thread.result c.thread.ensures z t) (closed z t.heap.sound) (in_register l h the_call c.requires c.thread.result c.thread.ensures c.args.reg a c.register.ensures z t),
    ))

pub returns-clause-cycle : goal.returns-clause-cycle
returns-clause-cycle c = let k = c.retain.new.self in retain_keeps c.args.heap.now k c.register.result k.ready.counts c.in_ok-reply.reply c.in_ok-reply.ensures.value
