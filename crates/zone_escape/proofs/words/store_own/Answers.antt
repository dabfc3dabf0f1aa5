use Rattle.std.proofs.Common.{◌≡◌, None, refl, sym, ap, subst, ◌∙◌}
use Rattle.az_base.specs.declared.word.Class.TheVariants as class
use Rattle.zone_model.specs.declared.call.Call.TheVariants as call
use Rattle.zone_model.specs.declared.entry.Reply.TheVariants as reply
use Rattle.zone_model.specs.Bare.{bare_reply}
use Rattle.zone_model.specs.Escape.{with_escaped}
use Rattle.zone_model.specs.State.{State, reference}
use Rattle.shared_heap.specs.Shared.{Shared}
use Rattle.shared_heap.specs.Steps.{first_three}
use Rattle.shared_heap.specs.Words.{reply_or}
use Rattle.shared_heap.proofs.Shut.{closed}
use Rattle.local_set.specs.LocalSets.{LocalSet, part_in}
use Rattle.escape_plan.specs.Together.{Together}
use Rattle.zone_escape.proofs.Exposed.{holder_there, holder_out, register_out, out_still, one_second, did_escape, is_there, still_there, too_many, shown}
use Rattle.zone_escape.proofs.Needs.{some_need}
use Rattle.zone_escape.proofs.Shown.{is_out, is_shared, known, held, part, misused}
use Rattle.zone_escape.proofs.Stored.{not_within, register_holds, store_tells, store_still, first_some, first_none, misuse_still, write_holds, write_room, write_options}
use Rattle.zone_escape.proofs.OpenCycles.{both_keep, livened}
use Rattle.zone_escape.proofs.words.store_own.Goals as goal

pub word_misuse-requires : goal.word_misuse-requires
word_misuse-requires c = record { given = holder_there c.args.local.now c.args.heap.now (call.Store c.args.into c.args.at c.args.from) c.requires c.args.into c.register.result c.register.ensures (not_within (part_in c.args.local.now) _ c.requires.shared) }

pub returns-in-Some-clause-ok : goal.returns-in-Some-clause-ok
returns-in-Some-clause-ok c =
    let l = c.args.local.now in
    let h = c.args.heap.now in
    let the_call = call.Store c.args.into c.args.at c.args.from in
    let can = c.requires in
    misused l h the_call can l h c.in-Some.misuse refl refl (λ z t.
    let value = (part_in l).registers c.args.from in
    let need = some_need l z t.heap.sound (part l h the_call can z t) None value (λ b is. cc) (known l h the_call can z t c.args.from _ refl) in
    let three = sym (c.word_misuse.ensures.stands z l.thread the_call c.args.into t.heap.stands (sym (held l h the_call can z t c.args.into _ c.register.ensures)) record { holder = refl; word = refl }) ∙ c.in-Some.is in (
      need.0,
      store_tells z l.thread need.0 c.args.into c.args.at c.args.from (register_holds l h the_call can c.args.into can.shared z t) (one_second z need.0 value (z.registers l.thread c.args.from) (held l h the_call can z t c.args.from _ refl) need.1),
      first_some _ _ _ c.in-Some.misuse _ three,
      t,
    ))

pub returns-then-not-branch-clause-ok : goal.returns-then-not-branch-clause-ok
returns-then-not-branch-clause-ok c =
    let l = c.args.local.now in
    let h = c.args.heap.now in
    let m = c.expose.new.local in
    let g = c.expose.new.heap in
    let a = c.register.result in
    let v = c.register-2.result in
    let the_call = call.Store c.args.into c.args.at c.args.from in
    let can = c.requires in
    let holds : (z : State) → Together l h z → _ = register_holds l h the_call can c.args.into can.shared in
    let three : (z : State) → Together l h z → first_three z l.thread the_call ≡ None =
    λ z t. sym (c.word_misuse.ensures.stands z l.thread the_call c.args.into t.heap.stands (sym (held l h the_call can z t c.args.into a c.register.ensures)) record { holder = refl; word = refl }) ∙ c.in_default.is in
    too_many l h the_call can m g v c.args.from c.register-2.ensures c.expose.ensures.rest _ c.in_ok-expose.ensures.ok (λ z t need tells. store_tells z l.thread need c.args.into c.args.at c.args.from (holds z t) tells) (λ z t need. first_none _ _ _ _ (three z t))
    c.if-not-branch.true

pub store-requires-clause-given : goal.store-requires-clause-given
store-requires-clause-given c =
    let l = c.args.local.now in
    let h = c.args.heap.now in
    let m = c.expose.new.local in
    let g = c.expose.new.heap in
    let a = c.register.result in
    let v = c.register-2.result in
    let the_call = call.Store c.args.into c.args.at c.args.from in
    let can = c.requires in
    still_there l h the_call can m g v c.args.from c.register-2.ensures c.expose.ensures.rest _ c.in_ok-expose.ensures.ok c.if-not-branch.false a (holder_out l h the_call can c.args.into a c.register.ensures (not_within (part_in l) _ can.shared))

pub store-requires-clause-escaped : goal.store-requires-clause-escaped
store-requires-clause-escaped c =
    is_there c.args.local.now c.args.heap.now (call.Store c.args.into c.args.at c.args.from) c.requires c.expose.new.local c.expose.new.heap c.register-2.result c.args.from c.register-2.ensures c.expose.ensures.rest _ c.in_ok-expose.ensures.ok c.if-not-branch.false

pub returns-clause-ok : goal.returns-clause-ok
returns-clause-ok c =
    let l = c.args.local.now in
    let h = c.args.heap.now in
    let m = c.expose.new.local in
    let g = c.expose.new.heap in
    let a = c.register.result in
    let v = c.register-2.result in
    let the_call = call.Store c.args.into c.args.at c.args.from in
    let can = c.requires in
    let holds : (z : State) → Together l h z → _ = register_holds l h the_call can c.args.into can.shared in
    let three : (z : State) → Together l h z → first_three z l.thread the_call ≡ None =
    λ z t. sym (c.word_misuse.ensures.stands z l.thread the_call c.args.into t.heap.stands (sym (held l h the_call can z t c.args.into a c.register.ensures)) record { holder = refl; word = refl }) ∙ c.in_default.is in
    let r = c.in-Ok.reply in
    let e = c.in-Ok.ensures in
    let w = reference v in
    let out : (z : State) → Together l h z → is_out z a = holder_out l h the_call can c.args.into a c.register.ensures (not_within (part_in l) _ can.shared) in
    let same : c.thread.result ≡ l.thread = c.thread.ensures ∙ ap (λ (s : LocalSet). s.thread) c.expose.ensures.rest in
    let z0 = can.together.0 in
    let t0 = can.together.1 in
    let first = did_escape l h the_call can m g v c.args.from c.register-2.ensures c.expose.ensures.rest _ c.in_ok-expose.ensures.ok c.if-not-branch.false z0 t0 in
    let done : r ≡ reply.Done = e.reply ∙ ap (λ o. reply_or o reply.Done) (misuse_still h g z0 first.0 a c.args.at class.Strong t0.heap.stands first.1.heap.stands (out z0 t0) ∙ sym c.word_misuse.ensures.value ∙ c.in_default.is) in
    shown l h the_call can m g v c.args.from c.register-2.ensures c.expose.ensures.rest _ c.in_ok-expose.ensures.ok (λ z t need tells. store_tells z l.thread need c.args.into c.args.at c.args.from (holds z t) tells) (λ z t need. first_none _ _ _ _ (three z t))
    c.if-not-branch.false c.store.new.self r c.thread.result c.thread.ensures (ap (λ (s : Shared). s.holds) e.value ∙ write_holds g a c.args.at w r) (ap (λ (s : Shared). s.room) e.value ∙ write_room g a c.args.at w r)
    (ap (λ (s : Shared). s.options) e.value ∙ write_options g a c.args.at w r) refl (subst (λ x. bare_reply x ≡ x) (sym done) refl) (λ k is. let no : reply.Done ≡ reply.Misuse k = sym done ∙ is in cc (no)) (λ y id n. n.1)
    (λ z t need together seen runs.
    let y = with_escaped z need in
    let into = held l h the_call can z t c.args.into a c.register.ensures in
    let from = held l h the_call can z t c.args.from v c.register-2.ensures in
    let still = out_still z need (z.registers l.thread c.args.into) (register_out l h the_call can c.args.into a c.register.ensures (not_within (part_in l) _ can.shared) z t) in
    record {
      leaves = (is_shared y (z.registers l.thread c.args.into) still, is_shared y (z.registers l.thread c.args.from) (subst (is_out y) from seen));
      still = store_still y l.thread c.args.into c.args.at c.args.from r still;
      stepped = e.step y c.args.into c.args.from runs (closed y together.heap.sound) (ap (λ u. z.registers u c.args.into) same ∙ sym into) (ap (λ u. z.registers u c.args.from) same ∙ sym from);
    })

pub returns-clause-cycle : goal.returns-clause-cycle
returns-clause-cycle c =
    let g = c.expose.new.heap in
    let k = c.store.new.self in
    both_keep c.args.heap.now g k c.in_ok-expose.ensures.cycle (livened g k c.in-Ok.reply _ _ c.in-Ok.ensures.gc)
