use Rattle.std.proofs.Common.{length, refl}
use Rattle.std.proofs.lemmas.Option.{slice_get_read}
use Rattle.az_base.specs.Ids.{among, same_id}
use Rattle.escape_plan.proofs.Telling.{told_as, told_both, can_still}
use Rattle.zone_escape.proofs.Told.{among_next, asked_here}
use Rattle.zone_escape.proofs.telling.tell_blocks.Goals as goal

pub tell_block-requires : goal.tell_block-requires
tell_block-requires c =
    let ids = c.args.ids.now in
    let i = c.loop-id.id-index in
    let id = c.id-item.result in
    let at = slice_get_read ids (length ids) i id refl c.loop-id-test.true c.id-item.is in
    can_still c.args.local.now c.args.heap.now c.loop-id.heap (among (Rattle.std.proofs.Common.take i ids)) (same_id id) (λ q asked. c.requires q (asked_here ids i id q at asked)) c.loop-id.invariant

pub loop-id-preserved : goal.loop-id-preserved
loop-id-preserved c =
    let ids = c.args.ids.now in
    let i = c.loop-id.id-index in
    let id = c.id-item.result in
    let at = slice_get_read ids (length ids) i id refl c.loop-id-test.true c.id-item.is in
    told_as c.args.local.now c.args.heap.now c.tell_block.new.heap _ _ (λ q. among_next ids i id q at)
    (told_both c.args.local.now c.args.heap.now c.loop-id.heap c.tell_block.new.heap (among (Rattle.std.proofs.Common.take i ids)) (same_id id) c.loop-id.invariant c.tell_block.ensures)
