use Rattle.std.proofs.Common.{◌≡◌, Some, refl, sym, ap, subst, ◌∙◌, inl, inr}
use Rattle.std.specs.Option.{option_map}
use Rattle.az_base.specs.declared.misuse.Misuse.TheVariants as misuse
use Rattle.az_base.specs.declared.weak_loc.WeakLoc.TheVariants as weak
use Rattle.zone_model.specs.declared.call.Call.TheVariants as call
use Rattle.zone_model.specs.declared.call.Loc.TheVariants as loc
use Rattle.zone_model.specs.declared.entry.Reply.TheVariants as reply
use Rattle.zone_model.specs.Bare.{bare_reply}
use Rattle.zone_model.specs.Escape.{with_escaped}
use Rattle.shared_heap.specs.Shared.{Shared}
use Rattle.shared_heap.specs.Steps as shared
use Rattle.shared_heap.specs.Weak.{after_assign, shown_in}
use Rattle.local_set.specs.LocalSets.{LocalSet}
use Rattle.zone_escape.proofs.Escaped.{has_escaped, is_too_much}
use Rattle.zone_escape.proofs.Shown.{misused, made, running, held, known}
use Rattle.zone_escape.proofs.Stored.{first_none}
use Rattle.zone_escape.proofs.WeakLocations.{turned, shows_value}
use Rattle.zone_escape.proofs.OpenCycles.{assign_keeps, both_keep}
use Rattle.zone_escape.proofs.weak.show.Goals as goal

pub returns-then-not-branch-clause-ok : goal.returns-then-not-branch-clause-ok
returns-then-not-branch-clause-ok c =
    let l = c.args.local.now in
    let h = c.args.heap.now in
    let the_call = call.SetWeak (loc.Word c.args.into c.args.at) c.args.from in
    let can = c.requires.can in
    let rest = c.escape.ensures.rest in
    let at = sym c.requires.holds in
    let is = c.register.ensures in
    misused l h the_call can c.escape.new.local c.escape.new.heap misuse.ZoneFull (ap (λ (s : LocalSet). s.thread) rest) (ap (λ (s : LocalSet). s.waiting) rest) (λ z t.
    let block = held l h the_call can z t c.args.into (Some c.args.id) at in
    let three = sym (c.requires.right z t the_call c.args.into (sym block) (record { holder = refl; word = refl })) in
    let e = is_too_much l c.escape.new.local h c.escape.new.heap _ _ _ c.in_ok-escape.ensures.ok z t (known l h the_call can z t c.args.into (Some c.args.id) at) (known l h the_call can z t c.args.from _ is) c.if-not-branch.true in
    (e.need, turned z e.need (Some c.args.id) c.register.result _ _ block (held l h the_call can z t c.args.from _ is) e.tells, first_none _ _ _ _ three ∙ e.wrong, e.together))

pub assign_weak-requires : goal.assign_weak-requires
assign_weak-requires c =
    let l = c.args.local.now in
    let h = c.args.heap.now in
    let the_call = call.SetWeak (loc.Word c.args.into c.args.at) c.args.from in
    let can = c.requires.can in
    let z = can.together.0 in
    let t = can.together.1 in
    let block = known l h the_call can z t c.args.into (Some c.args.id) (sym c.requires.holds) in
    let value = known l h the_call can z t c.args.from c.register.result c.register.ensures in
    let e = has_escaped l c.escape.new.local h c.escape.new.heap _ _ _ c.in_ok-escape.ensures.ok z t block value c.if-not-branch.false in
    record { given = e.object.here; escaped = e.value.here }

pub returns-clause-ok : goal.returns-clause-ok
returns-clause-ok c =
    let l = c.args.local.now in
    let m = c.escape.new.local in
    let h = c.args.heap.now in
    let g : Shared = c.escape.new.heap in
    let k : Shared = c.assign_weak.new.self in
    let id = c.args.id in
    let v = c.register.result in
    let r = c.in-Ok.reply in
    let the_call = call.SetWeak (loc.Word c.args.into c.args.at) c.args.from in
    let can = c.requires.can in
    let rest = c.escape.ensures.rest in
    let at = sym c.requires.holds in
    let is = c.register.ensures in
    let now = shown_in g v in
    let says : r ≡ reply.Block now =
    let z = can.together.0 in
    let t = can.together.1 in
    let block = sym (held l h the_call can z t c.args.into (Some id) at) in
    let e = has_escaped l m h g (Some id) v _ c.in_ok-escape.ensures.ok z t (known l h the_call can z t c.args.into (Some id) at) (known l h the_call can z t c.args.from _ is) c.if-not-branch.false in
    let three = sym (c.requires.right z t the_call c.args.into block (record { holder = refl; word = refl })) in
    shows_value g z e.need l.thread c.args.into c.args.at c.args.from id now r e.together.heap.stands e.object.here block three c.in-Ok.ensures.reply
    in
    let after = c.in-Ok.ensures.value ∙ ap (after_assign g (weak.Word id c.args.at)) says in
    let same = ap (λ (s : LocalSet). s.thread) rest in
    let thread = c.thread.ensures ∙ same in
    made l h the_call can m g k r same (ap (λ (s : LocalSet). s.waiting) rest) (ap (λ (s : Shared). s.holds) after) (ap (λ (s : Shared). s.room) after) (ap (λ (s : Shared). s.options) after) refl (subst (λ x. bare_reply x ≡ x) (sym says) refl)
    (λ z t.
    let block = held l h the_call can z t c.args.into (Some id) at in
    let value = held l h the_call can z t c.args.from _ is in
    let three = sym (c.requires.right z t the_call c.args.into (sym block) (record { holder = refl; word = refl })) in
    let e = has_escaped l m h g (Some id) v _ c.in_ok-escape.ensures.ok z t (known l h the_call can z t c.args.into (Some id) at) (known l h the_call can z t c.args.from _ is) c.if-not-branch.false in
    let runs : shared.Runs g (with_escaped z e.need) c.thread.result = record { stands = e.together.heap.stands; running = ap z.ended thread ∙ running l h the_call can z t } in
    record {
      need = e.need;
      tells = turned z e.need (Some id) v _ _ block value e.tells;
      right = first_none _ _ _ _ three ∙ e.right;
      together = e.together;
      none = λ q n. elim n [ inl one ↦ e.value.none _ value q one | inr two ↦ e.object.none _ block q two ];
      leaves = (e.value.shared _ value, e.object.shared _ block);
      still = refl;
      fine = λ w wrong. let no : reply.Block now ≡ reply.Misuse w = sym says ∙ wrong in cc (no);
      stepped = subst (λ u. shared.Stepped k (with_escaped z e.need) u the_call r) thread (c.in-Ok.ensures.step (with_escaped z e.need) (loc.Word c.args.into c.args.at) c.args.from runs e.shut
          (ap (option_map (λ a. weak.Word a c.args.at)) (ap (λ u. z.registers u c.args.into) thread ∙ sym block)) (ap (λ u. z.registers u c.args.from) thread ∙ sym value));
    })

pub returns-clause-cycle : goal.returns-clause-cycle
returns-clause-cycle c =
    let g : Shared = c.escape.new.heap in
    let k : Shared = c.assign_weak.new.self in
    both_keep c.args.heap.now g k c.in_ok-escape.ensures.cycle (assign_keeps g k (weak.Word c.args.id c.args.at) c.in-Ok.reply c.in-Ok.ensures.value)
