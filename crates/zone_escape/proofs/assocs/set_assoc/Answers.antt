use Rattle.std.proofs.Common.{◌≡◌, Some, refl, sym, ap, subst, ◌∙◌, inl, inr}
use Rattle.std.specs.FinMap.{get}
use Rattle.az_base.specs.declared.misuse.Misuse.TheVariants as misuse
use Rattle.zone_model.specs.declared.call.Call.TheVariants as call
use Rattle.zone_model.specs.declared.entry.Reply.TheVariants as reply
use Rattle.zone_model.specs.Bare.{bare_reply}
use Rattle.zone_model.specs.Escape.{with_escaped}
use Rattle.shared_heap.specs.Shared.{Shared}
use Rattle.shared_heap.specs.Steps as shared
use Rattle.local_set.specs.LocalSets.{LocalSet}
use Rattle.zone_escape.proofs.Associations.{assoc_tells, assoc_null, assoc_full}
use Rattle.zone_escape.proofs.Escaped.{has_escaped, is_too_much}
use Rattle.zone_escape.proofs.Needs.{some_need}
use Rattle.zone_escape.proofs.Shown.{misused, made, part, running, held, known}
use Rattle.zone_escape.proofs.OpenCycles.{both_keep, livened}
use Rattle.zone_escape.proofs.assocs.set_assoc.Goals as goal

pub returns-in_default-clause-ok : goal.returns-in_default-clause-ok
returns-in_default-clause-ok c =
    let l = c.args.local.now in
    let h = c.args.heap.now in
    let the_call = call.SetAssoc c.args.object c.args.key c.args.value in
    let can = c.requires in
    misused l h the_call can l h misuse.NullBlock refl refl (λ z t.
    let need = some_need l z t.heap.sound (part l h the_call can z t) _ _ (known l h the_call can z t c.args.object _ refl) (known l h the_call can z t c.args.value _ refl) in
    let tells = assoc_tells z l.thread need.0 c.args.object c.args.value c.args.key _ _ (held l h the_call can z t c.args.object _ refl) (held l h the_call can z t c.args.value _ refl) need.1 in
    (need.0, tells, assoc_null z l.thread need.0 c.args.object c.args.value c.args.key (held l h the_call can z t c.args.object _ (sym c.in_default.is ∙ c.register.ensures)), t))

pub returns-then-not-branch-clause-ok : goal.returns-then-not-branch-clause-ok
returns-then-not-branch-clause-ok c =
    let l = c.args.local.now in
    let h = c.args.heap.now in
    let the_call = call.SetAssoc c.args.object c.args.key c.args.value in
    let can = c.requires in
    let rest = c.escape.ensures.rest in
    let at = sym c.in-Some.is ∙ c.register.ensures in
    let is = c.register-2.ensures in
    misused l h the_call can c.escape.new.local c.escape.new.heap misuse.ZoneFull (ap (λ (s : LocalSet). s.thread) rest) (ap (λ (s : LocalSet). s.waiting) rest) (λ z t.
    let object = held l h the_call can z t c.args.object _ at in
    let value = held l h the_call can z t c.args.value _ is in
    let e = is_too_much l c.escape.new.local h c.escape.new.heap _ _ _ c.in_ok-escape.ensures.ok z t (known l h the_call can z t c.args.object _ at) (known l h the_call can z t c.args.value _ is) c.if-not-branch.true in
    (e.need, assoc_tells z l.thread e.need c.args.object c.args.value c.args.key _ _ object value e.tells, assoc_full z l.thread e.need c.args.object c.args.value c.args.key _ object ∙ e.wrong, e.together))

pub set_assoc-requires : goal.set_assoc-requires
set_assoc-requires c =
    let l = c.args.local.now in
    let h = c.args.heap.now in
    let the_call = call.SetAssoc c.args.object c.args.key c.args.value in
    let z = c.requires.together.0 in
    let t = c.requires.together.1 in
    let object = known l h the_call c.requires z t c.args.object (Some c.in-Some.id) (sym c.in-Some.is ∙ c.register.ensures) in
    let value = known l h the_call c.requires z t c.args.value c.register-2.result c.register-2.ensures in
    let e = has_escaped l c.escape.new.local h c.escape.new.heap _ _ _ c.in_ok-escape.ensures.ok z t object value c.if-not-branch.false in
    record { given = e.object.here; escaped = e.value.here }

pub returns-clause-ok : goal.returns-clause-ok
returns-clause-ok c =
    let l = c.args.local.now in
    let m = c.escape.new.local in
    let h = c.args.heap.now in
    let g : Shared = c.escape.new.heap in
    let k : Shared = c.set_assoc.new.self in
    let a = c.in-Some.id in
    let r = c.in-Ok.reply in
    let the_call = call.SetAssoc c.args.object c.args.key c.args.value in
    let can = c.requires in
    let rest = c.escape.ensures.rest in
    let after = c.in-Ok.ensures.value in
    let same = ap (λ (s : LocalSet). s.thread) rest in
    let thread = c.thread.ensures ∙ same in
    let at = sym c.in-Some.is ∙ c.register.ensures in
    let is = c.register-2.ensures in
    made l h the_call can m g k r same (ap (λ (s : LocalSet). s.waiting) rest) (ap (λ (s : Shared). s.holds) after) (ap (λ (s : Shared). s.room) after) (ap (λ (s : Shared). s.options) after) refl
    (subst (λ x. bare_reply x ≡ x) (sym c.in-Ok.ensures.reply) refl)
    (λ z t.
    let object = held l h the_call can z t c.args.object _ at in
    let value = held l h the_call can z t c.args.value _ is in
    let e = has_escaped l m h g (Some a) c.register-2.result _ c.in_ok-escape.ensures.ok z t (known l h the_call can z t c.args.object _ at) (known l h the_call can z t c.args.value _ is) c.if-not-branch.false in
    let runs : shared.Runs g (with_escaped z e.need) c.thread.result = record { stands = e.together.heap.stands; running = ap z.ended thread ∙ running l h the_call can z t } in
    record {
      need = e.need;
      tells = assoc_tells z l.thread e.need c.args.object c.args.value c.args.key _ _ object value e.tells;
      right = assoc_full z l.thread e.need c.args.object c.args.value c.args.key _ object ∙ e.right;
      together = e.together;
      none = λ q n. elim n [ inl one ↦ e.object.none _ object q one | inr two ↦ e.value.none _ value q two ];
      leaves = (e.object.shared _ object, e.value.shared _ value);
      still = refl;
      fine = λ w says. let no : reply.Block (get g.assocs (a, c.args.key.0)) ≡ reply.Misuse w = sym c.in-Ok.ensures.reply ∙ says in cc (no);
      stepped = subst (λ u. shared.Stepped k (with_escaped z e.need) u the_call r) thread
          (c.in-Ok.ensures.step (with_escaped z e.need) c.args.object c.args.value runs e.shut (ap (λ u. z.registers u c.args.object) thread ∙ sym object) (ap (λ u. z.registers u c.args.value) thread ∙ sym value));
    })

pub returns-clause-cycle : goal.returns-clause-cycle
returns-clause-cycle c =
    let g : Shared = c.escape.new.heap in
    let k : Shared = c.set_assoc.new.self in
    both_keep c.args.heap.now g k c.in_ok-escape.ensures.cycle (livened g k c.in-Ok.reply _ _ c.in-Ok.ensures.gc)
