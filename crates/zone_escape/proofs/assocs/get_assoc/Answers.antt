use Rattle.std.proofs.Common.{refl, sym, ap, ◌∙◌}
use Rattle.zone_model.specs.declared.call.Call.TheVariants as call
use Rattle.shared_heap.proofs.Collecting.{with_own_gc}
use Rattle.zone_escape.proofs.Making.{runs, can_receive, makes_read}
use Rattle.zone_escape.proofs.Shown.{held}
use Rattle.zone_escape.proofs.OpenCycles.{read_keeps}
use Rattle.zone_escape.proofs.assocs.get_assoc.Goals as goal

pub receive-requires-clause-called : goal.receive-requires-clause-called
receive-requires-clause-called c =
    let l = c.args.local.now in
    let h = c.args.heap.now in
    let the_call = call.GetAssoc c.args.to c.args.object c.args.key in
    let e = c.in_ok-reply.ensures in
    can_receive l h the_call c.requires c.get_assoc.new.self c.args.to c.in_ok-reply.reply c.thread.result refl c.thread.ensures e.held (with_own_gc _ _ e.value)
    (λ z t. e.step z c.args.to c.args.object (runs l h the_call c.requires c.thread.result c.thread.ensures z t) (ap (λ u. z.registers u c.args.object) c.thread.ensures ∙ sym (held l h the_call c.requires z t c.args.object _ c.register-id.ensures)))

pub returns-clause-ok : goal.returns-clause-ok
returns-clause-ok c =
    let l = c.args.local.now in
    let h = c.args.heap.now in
    let the_call = call.GetAssoc c.args.to c.args.object c.args.key in
    let e = c.in_ok-reply.ensures in
    makes_read l h the_call c.requires c.get_assoc.new.self c.args.to c.in_ok-reply.reply c.thread.result refl c.thread.ensures e.held (with_own_gc _ _ e.value)
    (λ z t. e.step z c.args.to c.args.object (runs l h the_call c.requires c.thread.result c.thread.ensures z t) (ap (λ u. z.registers u c.args.object) c.thread.ensures ∙ sym (held l h the_call c.requires z t c.args.object _ c.register-id.ensures)))
    c.receive.new.local c.receive.new.heap c.receive.ensures.together c.receive.ensures.local c.receive.ensures.heap

pub returns-clause-cycle : goal.returns-clause-cycle
returns-clause-cycle c = read_keeps c.args.heap.now c.get_assoc.new.self c.receive.new.heap c.thread.result c.in_ok-reply.reply c.in_ok-reply.ensures.value c.receive.ensures.heap
