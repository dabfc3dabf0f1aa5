use Rattle.std.proofs.Common.{◌+◌, List, drop, take, length, ap, subst, sym, ◌∙◌, refl}
use Rattle.std.proofs.lemmas.Option.{slice_get_read}
use Rattle.az_base.specs.declared.block_id.BlockId.{BlockId}
use Rattle.az_base.specs.Ids.{among}
use Rattle.zone_model.specs.Escape.{with_escaped}
use Rattle.zone_model.proofs.Steps.{none_escaped}
use Rattle.local_set.specs.LocalSets.{LocalSet}
use Rattle.local_set.proofs.Lists.{next_taken, next_left, none_left, all_taken}
use Rattle.escape_plan.specs.Moving.{Agree, CanMove}
use Rattle.escape_plan.proofs.Moving.{can_rest, escaped_more}
use Rattle.escape_plan.proofs.committing.move_all.Goals as goal

pub loop-id-init : goal.loop-id-init
loop-id-init c = record { rest = c.requires.can; agree = λ z a. rw (none_escaped z) a; local = refl; ready = refl; cycle = refl }

pub move_one-requires : goal.move_one-requires
move_one-requires c =
    let ids = c.args.ids.now in
    let i = c.loop-id.id-index in
    let id = c.id-item.result in
    let at = slice_get_read ids (length ids) i id refl c.loop-id-test.true c.id-item.is in
    record {
      agree = (with_escaped c.requires.agree.0 (among (take i ids)), c.loop-id.invariant.agree c.requires.agree.0 c.requires.agree.1);
      can = (drop (i + 1) ids, subst (CanMove c.loop-id.local c.loop-id.heap) (next_left ids i id at) c.loop-id.invariant.rest);
    }

pub loop-id-preserved : goal.loop-id-preserved
loop-id-preserved c =
    let ids = c.args.ids.now in
    let i = c.loop-id.id-index in
    let id = c.id-item.result in
    let l = c.loop-id.local in
    let h = c.loop-id.heap in
    let m = c.move_one.new.local in
    let k = c.move_one.new.heap in
    let moves = c.move_one.ensures in
    let at = slice_get_read ids (length ids) i id refl c.loop-id-test.true c.id-item.is in
    record {
      rest = can_rest l m h k id (drop (i + 1) ids) (subst (CanMove l h) (next_left ids i id at) c.loop-id.invariant.rest) moves;
      agree = λ z a.
          let y = with_escaped z (among (take i ids)) in
          subst (Agree m k) (escaped_more z (take i ids) id ∙ ap (λ (ks : List BlockId). with_escaped z (among ks)) (next_taken ids i id at)) (moves.agree y (c.loop-id.invariant.agree z a));
      local = moves.local ∙ ap (λ (s : LocalSet). record s { blocks = m.blocks }) c.loop-id.invariant.local;
      ready = moves.ready ∙ c.loop-id.invariant.ready;
      cycle = moves.cycle ∙ c.loop-id.invariant.cycle;
    }

pub returns-clause-agree : goal.returns-clause-agree
returns-clause-agree c = λ z a. subst (λ (ids : List BlockId). Agree c.loop-id.local c.loop-id.heap (with_escaped z (among ids))) (all_taken c.args.ids.now c.loop-id.id-index c.loop-id-test.false) (c.loop-id.invariant.agree z a)

pub returns-clause-room : goal.returns-clause-room
returns-clause-room c = (subst (CanMove c.loop-id.local c.loop-id.heap) (none_left c.args.ids.now c.loop-id.id-index c.loop-id-test.false) c.loop-id.invariant.rest).room
