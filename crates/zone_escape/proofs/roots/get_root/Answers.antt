use Rattle.std.proofs.Common.{refl}
use Rattle.zone_model.specs.declared.call.Call.TheVariants as call
use Rattle.shared_heap.proofs.Collecting.{with_own_gc}
use Rattle.zone_escape.proofs.Making.{runs, can_receive, makes_read}
use Rattle.zone_escape.proofs.OpenCycles.{read_keeps}
use Rattle.zone_escape.proofs.roots.get_root.Goals as goal

pub receive-requires-clause-called : goal.receive-requires-clause-called
receive-requires-clause-called c =
    let the_call = call.GetRoot c.args.to c.args.root in
    let e = c.in_ok-reply.ensures in
    can_receive c.args.local.now c.args.heap.now the_call c.requires c.get_root.new.self c.args.to c.in_ok-reply.reply c.thread.result refl c.thread.ensures e.held (with_own_gc _ _ e.value)
    (λ z t. e.step z c.args.to (runs c.args.local.now c.args.heap.now the_call c.requires c.thread.result c.thread.ensures z t))

pub returns-clause-ok : goal.returns-clause-ok
returns-clause-ok c =
    let the_call = call.GetRoot c.args.to c.args.root in
    let e = c.in_ok-reply.ensures in
    makes_read c.args.local.now c.args.heap.now the_call c.requires c.get_root.new.self c.args.to c.in_ok-reply.reply c.thread.result refl c.thread.ensures e.held (with_own_gc _ _ e.value)
    (λ z t. e.step z c.args.to (runs c.args.local.now c.args.heap.now the_call c.requires c.thread.result c.thread.ensures z t))
    c.receive.new.local c.receive.new.heap c.receive.ensures.together c.receive.ensures.local c.receive.ensures.heap

pub returns-clause-cycle : goal.returns-clause-cycle
returns-clause-cycle c = read_keeps c.args.heap.now c.get_root.new.self c.receive.new.heap c.thread.result c.in_ok-reply.reply c.in_ok-reply.ensures.value c.receive.ensures.heap
