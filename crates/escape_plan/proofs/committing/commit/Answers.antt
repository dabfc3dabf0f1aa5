use Rattle.std.proofs.Common.{List, subst, sym}
use Rattle.az_base.specs.declared.block_id.BlockId.{BlockId}
use Rattle.az_base.specs.Ids.{among}
use Rattle.zone_model.specs.Escape.{with_escaped}
use Rattle.escape_plan.specs.Moving.{Agree, CanMove}
use Rattle.escape_plan.proofs.Belonging.{agrees, can_begin, committed}
use Rattle.escape_plan.proofs.committing.commit.Goals as goal

pub move_all-requires-clause-agree : goal.move_all-requires-clause-agree
move_all-requires-clause-agree c = (c.requires.state.0, agrees c.args.local.now c.args.heap.now c.requires.state.0 c.requires.state.1 c.requires.state.2 c.requires.out)

pub move_all-requires-clause-can : goal.move_all-requires-clause-can
move_all-requires-clause-can c = subst (CanMove c.args.local.now c.args.heap.now) (sym c.ids.ensures) (can_begin c.args.local.now c.args.heap.now c.args.plan c.requires.whole c.requires.room c.requires.fits)

pub returns-clause-escaped : goal.returns-clause-escaped
returns-clause-escaped c = λ z b is.
    committed c.args.local.now c.move_all.new.local c.args.heap.now c.move_all.new.heap z c.args.plan b is c.requires.out c.requires.whole c.requires.fits c.move_all.ensures.local
    (subst (λ (ids : List BlockId). Agree c.move_all.new.local c.move_all.new.heap (with_escaped z (among ids))) c.ids.ensures (c.move_all.ensures.agree z (agrees c.args.local.now c.args.heap.now z b is c.requires.out))) c.move_all.ensures.room
