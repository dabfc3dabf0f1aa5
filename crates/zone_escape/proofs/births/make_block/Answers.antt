use Rattle.std.proofs.Common.{◌≡◌, sym, ap, ◌∙◌}
use Rattle.zone_model.specs.declared.entry.Reply.TheVariants as reply
use Rattle.zone_escape.proofs.Newborn.{born_id, unborn, makes_none, can_bear, makes_born}
use Rattle.zone_escape.proofs.OpenCycles.{birth_keeps, told_keeps}
use Rattle.zone_escape.proofs.births.make_block.Goals as goal

pub returns-in_default : goal.returns-in_default
returns-in_default c =
    let e = c.in_ok-reply.ensures in
    let wrong = unborn _ c.next_id.result c.in_ok-reply.reply e.reply (λ v is. c.in_default.not-Block v is) in
    record {
      ok = makes_none c.args.local.now c.args.heap.now c.args.to c.args.layout.now c.args.actions.now c.requires c.new_shared.new.self c.in_ok-reply.reply c.thread.result c.next_id.result c.thread.ensures c.next_id.ensures e.value e.step wrong.0 wrong.1;
      err = tt;
      cycle = birth_keeps c.args.heap.now c.new_shared.new.self c.thread.result c.args.layout.now c.args.actions.now c.in_ok-reply.reply e.value;
    }

pub receive-requires-clause-called : goal.receive-requires-clause-called
receive-requires-clause-called c =
    let e = c.in_ok-reply.ensures in
    let says : c.in_ok-reply.reply ≡ reply.Block c.next_id.result = c.in-Block.is ∙ ap reply.Block (born_id _ c.next_id.result c.in-Block.field-0 (sym e.reply ∙ c.in-Block.is)) in
    can_bear c.args.local.now c.args.heap.now c.args.to c.args.layout.now c.args.actions.now c.requires c.new_shared.new.self c.in_ok-reply.reply c.thread.result c.next_id.result c.thread.ensures c.next_id.ensures e.value e.step c.use_serial.new.self c.use_serial.ensures says e.held

pub returns-clause-ok : goal.returns-clause-ok
returns-clause-ok c =
    let e = c.in_ok-reply.ensures in
    let says : c.in_ok-reply.reply ≡ reply.Block c.next_id.result = c.in-Block.is ∙ ap reply.Block (born_id _ c.next_id.result c.in-Block.field-0 (sym e.reply ∙ c.in-Block.is)) in
    makes_born c.args.local.now c.args.heap.now c.args.to c.args.layout.now c.args.actions.now c.requires c.new_shared.new.self c.in_ok-reply.reply c.thread.result c.next_id.result c.thread.ensures c.next_id.ensures e.value e.step c.use_serial.new.self c.use_serial.ensures says e.held
    c.receive.new.local c.receive.new.heap c.receive.ensures.together c.receive.ensures.local c.receive.ensures.heap

pub returns-clause-cycle : goal.returns-clause-cycle
returns-clause-cycle c =
    let h = c.args.heap.now in
    let k = c.new_shared.new.self in
    told_keeps h k c.receive.new.heap (birth_keeps h k c.thread.result c.args.layout.now c.args.actions.now c.in_ok-reply.reply c.in_ok-reply.ensures.value) c.receive.ensures.heap
