use Rattle.std.proofs.Common.{false, refl, sym, ap, ◌∙◌}
use Rattle.std.specs.Option.{option_map_or}
use Rattle.az_base.specs.declared.misuse.Misuse.TheVariants as misuse
use Rattle.zone_model.specs.declared.call.Call.TheVariants as call
use Rattle.zone_model.specs.Part.{is_in}
use Rattle.shared_heap.specs.Shared.{Shared}
use Rattle.local_set.specs.LocalSets.{part_in}
use Rattle.zone_escape.proofs.Counted.{own_block, own_release, release_holds, release_room, release_options}
use Rattle.zone_escape.proofs.Exposed.{holder_there}
use Rattle.zone_escape.proofs.Making.{runs, in_register, answered}
use Rattle.zone_escape.proofs.Shown.{misused}
use Rattle.zone_escape.proofs.OpenCycles.{release_keeps}
use Rattle.zone_escape.proofs.counts.release.Goals as goal

pub returns-then-is_own-clause-makes : goal.returns-then-is_own-clause-makes
returns-then-is_own-clause-makes c =
    let l = c.args.local.now in
    let h = c.args.heap.now in
    let the_call = call.Release c.args.reg in
    let own = own_block l ((part_in l).registers c.args.reg) (ap (λ o. option_map_or (is_in (part_in l)) o false) (sym c.register.ensures) ∙ sym c.is_own.ensures ∙ c.if-is_own.true) in
    misused l h the_call c.requires l h misuse.OverRelease refl refl (λ z t. ((λ _. false), (λ id. (λ no_test. cc, λ n. absurd n)), own_release l h the_call c.requires c.args.reg own.0 own.1 own.2 z t, t))

pub release-requires : goal.release-requires
release-requires c =
    let l = c.args.local.now in
    record {
      given = holder_there l c.args.heap.now (call.Release c.args.reg) c.requires c.args.reg c.register.result c.register.ensures (ap (λ o. option_map_or (is_in (part_in l)) o false) (sym c.register.ensures) ∙ sym c.is_own.ensures ∙ c.if-is_own.false);
    }

pub returns-clause-makes : goal.returns-clause-makes
returns-clause-makes c =
    let l = c.args.local.now in
    let h = c.args.heap.now in
    let the_call = call.Release c.args.reg in
    let a = c.register.result in
    let r = c.release.result in
    let value = c.release.ensures.value in
    answered l h the_call c.requires c.release.new.self r c.thread.result c.thread.ensures (ap (λ (s : Shared). s.holds) value ∙ release_holds h a r) (ap (λ (s : Shared). s.room) value ∙ release_room h a r) (ap (λ (s : Shared). s.options) value ∙ release_options h a r) refl
    (λ z t. (
      tt,
      (λ id n. n),
      refl,
      c.release.ensures.step z c.args.reg (runs l h the_call c.requires c.thread.result c.thread.ensures z t) (in_register l h the_call c.requires c.thread.result c.thread.ensures c.args.reg a c.register.ensures z t),
    ))

pub returns-clause-cycle : goal.returns-clause-cycle
returns-clause-cycle c = release_keeps c.args.heap.now c.release.new.self c.register.result c.release.result c.release.ensures.value
