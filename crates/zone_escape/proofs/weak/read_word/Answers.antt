use Rattle.std.proofs.Common.{Some, false, refl, sym, ap, ◌∙◌}
use Rattle.std.specs.Option.{option_map}
use Rattle.az_base.specs.declared.misuse.Misuse.TheVariants as misuse
use Rattle.az_base.specs.declared.weak_loc.WeakLoc.TheVariants as weak
use Rattle.zone_model.specs.declared.call.Call.TheVariants as call
use Rattle.zone_model.specs.declared.call.Loc.TheVariants as loc
use Rattle.zone_escape.proofs.Making.{runs, can_receive, makes_read}
use Rattle.zone_escape.proofs.Shown.{misused, part, held, known}
use Rattle.zone_escape.proofs.WeakLocations.{known_there, null_read, no_need}
use Rattle.zone_escape.proofs.OpenCycles.{livened, told_keeps}
use Rattle.zone_escape.proofs.weak.read_word.Goals as goal

pub returns-in_default-clause-ok : goal.returns-in_default-clause-ok
returns-in_default-clause-ok c =
    let l = c.args.local.now in
    let h = c.args.heap.now in
    let the_call = call.ReadWeak c.args.to (loc.Word c.args.from c.args.at) in
    misused l h the_call c.requires l h misuse.NullBlock refl refl
    (λ z t. ((λ _. false), no_need, null_read z l.thread c.args.to c.args.from c.args.at (held l h the_call c.requires z t c.args.from _ (sym c.in_default.is ∙ c.register.ensures)), t))

pub read_weak-requires : goal.read_weak-requires
read_weak-requires c =
    let l = c.args.local.now in
    let h = c.args.heap.now in
    let the_call = call.ReadWeak c.args.to (loc.Word c.args.from c.args.at) in
    let z = c.requires.together.0 in
    let t = c.requires.together.1 in
    record { given = known_there l z (part l h the_call c.requires z t) c.in-Some.id h t.heap.stands (known l h the_call c.requires z t c.args.from _ (sym c.in-Some.is ∙ c.register.ensures) c.in-Some.id refl) (sym c.is_own.ensures ∙ c.if-is_own.false) }

pub receive-requires-clause-called : goal.receive-requires-clause-called
receive-requires-clause-called c =
    let l = c.args.local.now in
    let h = c.args.heap.now in
    let the_call = call.ReadWeak c.args.to (loc.Word c.args.from c.args.at) in
    let e = c.in_ok-reply.ensures in
    can_receive l h the_call c.requires c.read_weak.new.self c.args.to c.in_ok-reply.reply c.thread.result refl c.thread.ensures e.held e.value
    (λ z t. e.step z c.args.to (loc.Word c.args.from c.args.at) (runs l h the_call c.requires c.thread.result c.thread.ensures z t)
    (ap (option_map (λ id. weak.Word id c.args.at)) (ap (λ u. z.registers u c.args.from) c.thread.ensures ∙ sym (held l h the_call c.requires z t c.args.from (Some c.in-Some.id) (sym c.in-Some.is ∙ c.register.ensures)))))

pub returns-clause-ok : goal.returns-clause-ok
returns-clause-ok c =
    let l = c.args.local.now in
    let h = c.args.heap.now in
    let the_call = call.ReadWeak c.args.to (loc.Word c.args.from c.args.at) in
    let e = c.in_ok-reply.ensures in
    makes_read l h the_call c.requires c.read_weak.new.self c.args.to c.in_ok-reply.reply c.thread.result refl c.thread.ensures e.held e.value
    (λ z t. e.step z c.args.to (loc.Word c.args.from c.args.at) (runs l h the_call c.requires c.thread.result c.thread.ensures z t)
    (ap (option_map (λ id. weak.Word id c.args.at)) (ap (λ u. z.registers u c.args.from) c.thread.ensures ∙ sym (held l h the_call c.requires z t c.args.from (Some c.in-Some.id) (sym c.in-Some.is ∙ c.register.ensures)))))
    c.receive.new.local c.receive.new.heap c.receive.ensures.together c.receive.ensures.local c.receive.ensures.heap

pub returns-clause-cycle : goal.returns-clause-cycle
returns-clause-cycle c =
    let h = c.args.heap.now in
    let k = c.read_weak.new.self in
    told_keeps h k c.receive.new.heap (livened h k c.in_ok-reply.reply _ _ c.in_ok-reply.ensures.gc) c.receive.ensures.heap
