use Rattle.std.proofs.Common.{◌≡◌, ◌+◌, None, refl, sym, ap, subst, ◌∙◌}
use Rattle.az_base.specs.declared.misuse.Misuse.TheVariants as misuse
use Rattle.az_base.specs.declared.options.Options.{Options}
use Rattle.zone_model.specs.declared.call.Call.TheVariants as call
use Rattle.zone_model.specs.declared.entry.Reply.TheVariants as reply
use Rattle.zone_model.specs.Bare.{bare_reply}
use Rattle.zone_model.specs.Escape.{with_escaped}
use Rattle.zone_model.specs.State.{State}
use Rattle.shared_heap.specs.Retained.{count_at}
use Rattle.shared_heap.specs.Shared.{Shared}
use Rattle.shared_heap.specs.Words.{reply_or}
use Rattle.shared_heap.proofs.Shut.{closed}
use Rattle.local_set.specs.LocalSets.{LocalSet, part_in}
use Rattle.escape_plan.specs.Together.{Together}
use Rattle.zone_escape.proofs.Counted.{own_block, own_full, own_retain, raises, retain_holds, retain_room, retain_options}
use Rattle.zone_escape.proofs.Exposed.{one_second, did_escape, is_there, too_many, shown}
use Rattle.zone_escape.proofs.Needs.{some_need}
use Rattle.zone_escape.proofs.Shown.{is_out, is_shared, known, held, part, misused}
use Rattle.zone_escape.proofs.OpenCycles.{both_keep, retain_keeps}
use Rattle.zone_escape.proofs.counts.retain_own.Goals as goal

pub returns-then-options-eq0-clause-ok : goal.returns-then-options-eq0-clause-ok
returns-then-options-eq0-clause-ok c =
    let l = c.args.local.now in
    let h = c.args.heap.now in
    let the_call = call.Retain c.args.reg in
    let can = c.requires.can in
    let own = own_block l ((part_in l).registers c.args.reg) c.requires.own in
    misused l h the_call can l h misuse.CountFull refl refl (λ z t.
    let v = (part_in l).registers c.args.reg in
    let need = some_need l z t.heap.sound (part l h the_call can z t) None v (λ b is. cc) (known l h the_call can z t c.args.reg v refl) in
    let none : z.options.counts ≡ 0 = ap (λ (o : Options). o.counts) (sym (c.options.ensures.stands z t.heap.stands)) ∙ c.if-options-eq0.true in (
      need.0,
      one_second z need.0 v (z.registers l.thread c.args.reg) (held l h the_call can z t c.args.reg v refl) need.1,
      own_full l h the_call can c.args.reg own.0 own.1 own.2 z t need.0 none,
      t,
    ))

pub returns-then-not-branch-clause-ok : goal.returns-then-not-branch-clause-ok
returns-then-not-branch-clause-ok c =
    let l = c.args.local.now in
    let h = c.args.heap.now in
    let the_call = call.Retain c.args.reg in
    let can = c.requires.can in
    let own = own_block l ((part_in l).registers c.args.reg) c.requires.own in
    let m = c.escape.new.local in
    let g : Shared = c.escape.new.heap in
    let v = c.register.result in
    let some : (z : State) → Together l h z → z.options.counts ≡ 0 → ⊥ = λ z t none. c.if-options-eq0.false (ap (λ (o : Options). o.counts) (c.options.ensures.stands z t.heap.stands) ∙ none) in
    too_many l h the_call can m g v c.args.reg c.register.ensures c.escape.ensures.rest _ c.in_ok-escape.ensures.ok (λ z t need tells. tells) (λ z t need. own_retain l h the_call can c.args.reg own.0 own.1 own.2 z t need (some z t)) c.if-not-branch.true

pub retain-requires : goal.retain-requires
retain-requires c = record {
  given = is_there c.args.local.now c.args.heap.now (call.Retain c.args.reg) c.requires.can c.escape.new.local c.escape.new.heap c.register.result c.args.reg c.register.ensures c.escape.ensures.rest _ c.in_ok-escape.ensures.ok c.if-not-branch.false;
}

pub returns-clause-ok : goal.returns-clause-ok
returns-clause-ok c =
    let l = c.args.local.now in
    let h = c.args.heap.now in
    let the_call = call.Retain c.args.reg in
    let can = c.requires.can in
    let own = own_block l ((part_in l).registers c.args.reg) c.requires.own in
    let m = c.escape.new.local in
    let g : Shared = c.escape.new.heap in
    let v = c.register.result in
    let some : (z : State) → Together l h z → z.options.counts ≡ 0 → ⊥ = λ z t none. c.if-options-eq0.false (ap (λ (o : Options). o.counts) (c.options.ensures.stands z t.heap.stands) ∙ none) in
    let r = c.in-Ok.reply in
    let e = c.in-Ok.ensures in
    let k = c.retain.new.self in
    let same : c.thread.result ≡ l.thread = c.thread.ensures ∙ ap (λ (s : LocalSet). s.thread) c.escape.ensures.rest in
    let z0 = can.together.0 in
    let t0 = can.together.1 in
    let first = did_escape l h the_call can m g v c.args.reg c.register.ensures c.escape.ensures.rest _ c.in_ok-escape.ensures.ok c.if-not-branch.false z0 t0 in
    let n = count_at g v + 1 in
    let done : r ≡ reply.Number n = e.reply ∙ ap (λ o. reply_or o (reply.Number n)) (raises l h the_call can c.args.reg own.0 own.1 own.2 z0 t0 g first.0 v c.register.ensures (some z0 t0) first.1.heap.stands) in
    shown l h the_call can m g v c.args.reg c.register.ensures c.escape.ensures.rest _ c.in_ok-escape.ensures.ok (λ z t need tells. tells) (λ z t need. own_retain l h the_call can c.args.reg own.0 own.1 own.2 z t need (some z t)) c.if-not-branch.false k r
    c.thread.result c.thread.ensures (ap (λ (s : Shared). s.holds) e.value ∙ retain_holds g v k.ready.counts r) (ap (λ (s : Shared). s.room) e.value ∙ retain_room g v k.ready.counts r) (ap (λ (s : Shared). s.options) e.value ∙ retain_options g v k.ready.counts r) refl
    (subst (λ x. bare_reply x ≡ x) (sym done) refl) (λ w is. let differ : reply.Number n ≡ reply.Misuse w = sym done ∙ is in cc (differ)) (λ y id need. need) (λ z t need together out runs.
    let y = with_escaped z need in
    let at = held l h the_call can z t c.args.reg v c.register.ensures in
    record {
      leaves = is_shared y (z.registers l.thread c.args.reg) (subst (is_out y) at out);
      still = refl;
      stepped = e.step y c.args.reg runs (closed y together.heap.sound) (ap (λ u. z.registers u c.args.reg) same ∙ sym at);
    })

pub returns-clause-cycle : goal.returns-clause-cycle
returns-clause-cycle c =
    let g : Shared = c.escape.new.heap in
    let k = c.retain.new.self in
    both_keep c.args.heap.now g k c.in_ok-escape.ensures.cycle (retain_keeps g k c.register.result k.ready.counts c.in-Ok.reply c.in-Ok.ensures.value)
