use Rattle.std.proofs.Common.{◌≡◌, refl, sym, ap, subst, ◌∙◌}
use Rattle.zone_model.specs.declared.call.Call.TheVariants as call
use Rattle.zone_model.specs.declared.entry.Reply.TheVariants as reply
use Rattle.zone_model.specs.Bare.{bare_reply}
use Rattle.zone_model.specs.Part.{part_of, part_after}
use Rattle.zone_model.specs.Escape.{with_escaped}
use Rattle.local_set.specs.LocalSets.{LocalSet}
use Rattle.shared_heap.specs.Shared.{Shared}
use Rattle.shared_heap.proofs.Shut.{closed}
use Rattle.zone_escape.proofs.Exposed.{is_there, too_many, shown}
use Rattle.zone_escape.proofs.Shown.{held, is_out, is_shared}
use Rattle.zone_escape.proofs.OpenCycles.{both_keep}
use Rattle.zone_escape.proofs.roots.set_root.Goals as goal

pub returns-then-not-branch-clause-ok : goal.returns-then-not-branch-clause-ok
returns-then-not-branch-clause-ok c =
    too_many c.args.local.now c.args.heap.now (call.SetRoot c.args.root c.args.from) c.requires c.expose.new.local c.expose.new.heap c.register.result c.args.from c.register.ensures c.expose.ensures.rest _ c.in_ok-expose.ensures.ok
    (λ z t need tells. tells) (λ z t need. refl) c.if-not-branch.true

pub set_root-requires : goal.set_root-requires
set_root-requires c = record {
  escaped = is_there c.args.local.now c.args.heap.now (call.SetRoot c.args.root c.args.from) c.requires c.expose.new.local c.expose.new.heap c.register.result c.args.from c.register.ensures c.expose.ensures.rest _ c.in_ok-expose.ensures.ok c.if-not-branch.false;
}

pub returns-clause-ok : goal.returns-clause-ok
returns-clause-ok c =
    let l = c.args.local.now in
    let h = c.args.heap.now in
    let m = c.expose.new.local in
    let the_call = call.SetRoot c.args.root c.args.from in
    let value = c.set_root.ensures.value in
    shown l h the_call c.requires m c.expose.new.heap c.register.result c.args.from c.register.ensures c.expose.ensures.rest _ c.in_ok-expose.ensures.ok (λ z t need tells. tells) (λ z t need. refl)
    c.if-not-branch.false c.set_root.new.self c.set_root.result c.thread.result c.thread.ensures (ap (λ (s : Shared). s.holds) value) (ap (λ (s : Shared). s.room) value) (ap (λ (s : Shared). s.options) value) refl
    (subst (λ r. bare_reply r ≡ r) (sym c.set_root.ensures.reply) refl) (λ w is. let no : reply.Done ≡ reply.Misuse w = sym c.set_root.ensures.reply ∙ is in cc (no)) (λ y id n. n)
    (λ z t need together out runs.
    let y = with_escaped z need in
    let at = held l h the_call c.requires z t c.args.from _ c.register.ensures in
    record {
      leaves = is_shared y (z.registers l.thread c.args.from) (subst (is_out y) at out);
      still = subst (λ r. part_after (part_of y l.thread) the_call r ≡ part_of y l.thread) (sym c.set_root.ensures.reply) refl;
      stepped = c.set_root.ensures.step y c.args.from runs (closed y together.heap.sound) (ap (λ u. z.registers u c.args.from) (c.thread.ensures ∙ ap (λ (s : LocalSet). s.thread) c.expose.ensures.rest) ∙ sym at);
    })

pub returns-clause-cycle : goal.returns-clause-cycle
returns-clause-cycle c = both_keep c.args.heap.now c.expose.new.heap c.set_root.new.self c.in_ok-expose.ensures.cycle c.set_root.ensures.gc.cycle
