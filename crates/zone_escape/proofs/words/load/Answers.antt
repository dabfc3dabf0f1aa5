use Rattle.std.proofs.Common.{refl}
use Rattle.zone_model.specs.declared.call.Call.TheVariants as call
use Rattle.local_set.specs.LocalSets.{part_in}
use Rattle.zone_escape.proofs.Exposed.{holder_there}
use Rattle.shared_heap.proofs.Collecting.{with_own_gc}
use Rattle.zone_escape.proofs.Making.{runs, in_register, can_receive, makes_read}
use Rattle.zone_escape.proofs.Stored.{not_within}
use Rattle.zone_escape.proofs.OpenCycles.{read_keeps}
use Rattle.zone_escape.proofs.words.load.Goals as goal

pub load-requires : goal.load-requires
load-requires c = record { given = holder_there c.args.local.now c.args.heap.now (call.Load c.args.to c.args.from c.args.at) c.requires c.args.from c.register-holder.result c.register-holder.ensures (not_within (part_in c.args.local.now) _ c.requires.shared) }

pub receive-requires-clause-called : goal.receive-requires-clause-called
receive-requires-clause-called c =
    let l = c.args.local.now in
    let h = c.args.heap.now in
    let the_call = call.Load c.args.to c.args.from c.args.at in
    let e = c.in_ok-reply.ensures in
    can_receive l h the_call c.requires c.load.new.self c.args.to c.in_ok-reply.reply c.thread.result refl c.thread.ensures e.held (with_own_gc _ _ e.value)
    (λ z t. e.step z c.args.to c.args.from (runs l h the_call c.requires c.thread.result c.thread.ensures z t) (in_register l h the_call c.requires c.thread.result c.thread.ensures c.args.from c.register-holder.result c.register-holder.ensures z t))

pub returns-clause-ok : goal.returns-clause-ok
returns-clause-ok c =
    let l = c.args.local.now in
    let h = c.args.heap.now in
    let the_call = call.Load c.args.to c.args.from c.args.at in
    let e = c.in_ok-reply.ensures in
    makes_read l h the_call c.requires c.load.new.self c.args.to c.in_ok-reply.reply c.thread.result refl c.thread.ensures e.held (with_own_gc _ _ e.value)
    (λ z t. e.step z c.args.to c.args.from (runs l h the_call c.requires c.thread.result c.thread.ensures z t) (in_register l h the_call c.requires c.thread.result c.thread.ensures c.args.from c.register-holder.result c.register-holder.ensures z t))
    c.receive.new.local c.receive.new.heap c.receive.ensures.together c.receive.ensures.local c.receive.ensures.heap

pub returns-clause-cycle : goal.returns-clause-cycle
returns-clause-cycle c = read_keeps c.args.heap.now c.load.new.self c.receive.new.heap c.thread.result c.in_ok-reply.reply c.in_ok-reply.ensures.value c.receive.ensures.heap
