use Rattle.std.proofs.Common.{refl}
use Rattle.zone_model.specs.declared.call.Call.TheVariants as call
use Rattle.zone_model.specs.declared.call.Loc.TheVariants as loc
use Rattle.zone_escape.proofs.Making.{runs, can_receive, makes_read}
use Rattle.zone_escape.proofs.OpenCycles.{livened, told_keeps}
use Rattle.zone_escape.proofs.weak.read_root.Goals as goal

pub receive-requires-clause-called : goal.receive-requires-clause-called
receive-requires-clause-called c =
    let l = c.args.local.now in
    let h = c.args.heap.now in
    let the_call = call.ReadWeak c.args.to (loc.Root c.args.root) in
    let e = c.in_ok-reply.ensures in
    can_receive l h the_call c.requires c.read_weak.new.self c.args.to c.in_ok-reply.reply c.thread.result refl c.thread.ensures e.held e.value
    (λ z t. e.step z c.args.to (loc.Root c.args.root) (runs l h the_call c.requires c.thread.result c.thread.ensures z t) refl)

pub returns-clause-ok : goal.returns-clause-ok
returns-clause-ok c =
    let l = c.args.local.now in
    let h = c.args.heap.now in
    let the_call = call.ReadWeak c.args.to (loc.Root c.args.root) in
    let e = c.in_ok-reply.ensures in
    makes_read l h the_call c.requires c.read_weak.new.self c.args.to c.in_ok-reply.reply c.thread.result refl c.thread.ensures e.held e.value
    (λ z t. e.step z c.args.to (loc.Root c.args.root) (runs l h the_call c.requires c.thread.result c.thread.ensures z t) refl)
    c.receive.new.local c.receive.new.heap c.receive.ensures.together c.receive.ensures.local c.receive.ensures.heap

pub returns-clause-cycle : goal.returns-clause-cycle
returns-clause-cycle c =
    let h = c.args.heap.now in
    let k = c.read_weak.new.self in
    told_keeps h k c.receive.new.heap (livened h k c.in_ok-reply.reply _ _ c.in_ok-reply.ensures.gc) c.receive.ensures.heap
