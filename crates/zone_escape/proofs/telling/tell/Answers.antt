use Rattle.std.proofs.Common.{subst}
use Rattle.az_base.specs.declared.block_id.BlockId.{BlockId}
use Rattle.az_base.specs.Ids.{among}
use Rattle.std.proofs.Common.{List}
use Rattle.escape_plan.specs.Moving.{Told}
use Rattle.zone_escape.specs.Telling.{below, moved_at}
use Rattle.zone_escape.proofs.Held.{can_tell}
use Rattle.escape_plan.proofs.Telling.{told_both, can_still}
use Rattle.zone_escape.proofs.Told.{can_some}
use Rattle.zone_escape.proofs.telling.tell.Goals as goal

pub tell_registers-requires : goal.tell_registers-requires
tell_registers-requires c = can_tell c.args.local.now c.args.heap.now c.requires.0 c.requires.1 c.requires.2

pub tell_blocks-requires : goal.tell_blocks-requires
tell_blocks-requires c =
    let l = c.args.local.now in
    let h = c.args.heap.now in
    can_still l h c.tell_registers.new.heap (below (moved_at l) 16) (among c.changed.result.now)
    (can_some l h (among c.changed.result.now) (can_tell l h c.requires.0 c.requires.1 c.requires.2 c.tell_registers.ensures.sixteen)) c.tell_registers.ensures.told

pub returns : goal.returns
returns c =
    let l = c.args.local.now in
    told_both l c.args.heap.now c.tell_registers.new.heap c.tell_blocks.new.heap (below (moved_at l) 16) (among l.changed) c.tell_registers.ensures.told
    (subst (λ (ids : List BlockId). Told l c.tell_registers.new.heap c.tell_blocks.new.heap (among ids)) c.changed.ensures c.tell_blocks.ensures)
