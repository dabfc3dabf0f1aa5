use Rattle.std.proofs.Common.{Some, refl, sym, ◌∙◌}
use Rattle.az_base.specs.declared.misuse.Misuse.TheVariants as misuse
use Rattle.zone_model.specs.declared.call.Call.TheVariants as call
use Rattle.zone_model.specs.declared.call.Loc.TheVariants as loc
use Rattle.zone_escape.proofs.Needs.{some_need}
use Rattle.zone_escape.proofs.Shown.{misused, part, held, known}
use Rattle.zone_escape.proofs.Stored.{first_some}
use Rattle.zone_escape.proofs.WeakLocations.{null_set}
use Rattle.zone_escape.proofs.weak.set_word.Goals as goal

pub returns-in_default-clause-ok : goal.returns-in_default-clause-ok
returns-in_default-clause-ok c =
    let l = c.args.local.now in
    let h = c.args.heap.now in
    let the_call = call.SetWeak (loc.Word c.args.into c.args.at) c.args.from in
    let can = c.requires in
    misused l h the_call can l h misuse.NullBlock refl refl (λ z t.
    let registers = t.heap.sound.names.registers l.thread in
    let need = some_need l z t.heap.sound (part l h the_call can z t) (z.registers l.thread c.args.from) (z.registers l.thread c.args.into) (registers c.args.from) (registers c.args.into) in
    (need.0, need.1, null_set z l.thread c.args.into c.args.at c.args.from need.0 (held l h the_call can z t c.args.into _ (sym c.in_default.is ∙ c.register.ensures)), t))

pub weak_misuse-requires-clause-held : goal.weak_misuse-requires-clause-held
weak_misuse-requires-clause-held c =
    let l = c.args.local.now in
    let h = c.args.heap.now in
    let the_call = call.SetWeak (loc.Word c.args.into c.args.at) c.args.from in
    let z = c.requires.together.0 in
    let t = c.requires.together.1 in
    (z, t, known l h the_call c.requires z t c.args.into _ (sym c.in-Some.is ∙ c.register.ensures) c.in-Some.id refl)

pub returns-in-Some-weak_misuse-clause-ok : goal.returns-in-Some-weak_misuse-clause-ok
returns-in-Some-weak_misuse-clause-ok c =
    let l = c.args.local.now in
    let h = c.args.heap.now in
    let the_call = call.SetWeak (loc.Word c.args.into c.args.at) c.args.from in
    let can = c.requires in
    misused l h the_call can l h c.in-Some-weak_misuse.misuse refl refl (λ z t.
    let registers = t.heap.sound.names.registers l.thread in
    let need = some_need l z t.heap.sound (part l h the_call can z t) (z.registers l.thread c.args.from) (z.registers l.thread c.args.into) (registers c.args.from) (registers c.args.into) in
    let holds = sym (held l h the_call can z t c.args.into (Some c.in-Some.id) (sym c.in-Some.is ∙ c.register.ensures)) in
    let three = sym (c.weak_misuse.ensures z t the_call c.args.into holds (record { holder = refl; word = refl })) ∙ c.in-Some-weak_misuse.is in
    (need.0, need.1, first_some _ _ _ c.in-Some-weak_misuse.misuse _ three, t))
