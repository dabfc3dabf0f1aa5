use Rattle.std.proofs.Common.{List, length, take, refl, sym, subst}
use Rattle.std.proofs.lemmas.Option.{slice_get_read}
use Rattle.az_base.specs.declared.block_id.BlockId.{BlockId}
use Rattle.az_base.specs.declared.word.Word.{Word}
use Rattle.local_set.proofs.Lists.{all_taken, among_of}
use Rattle.escape_plan.specs.Moving.{refer_to, Told}
use Rattle.zone_escape.specs.Telling.{emptied, refer_from}
use Rattle.escape_plan.proofs.Telling.{told_as, told_both}
use Rattle.zone_escape.proofs.Told.{told_nothing}
use Rattle.zone_escape.proofs.Ended.{refer_next, words_found}
use Rattle.zone_escape.proofs.leaving.let_blocks_go.Goals as goal

pub loop-id-init : goal.loop-id-init
loop-id-init c = told_nothing (emptied c.args.local.now) c.args.heap.now _ (λ q. refl)

pub block_of-requires : goal.block_of-requires
block_of-requires c =
    let ids = c.args.ids.now in
    let i = c.loop-id.id-index in
    let id = c.id-item.result in
    c.requires id (among_of ids i id (slice_get_read ids (length ids) i id refl c.loop-id-test.true c.id-item.is))

pub loop-id-preserved : goal.loop-id-preserved
loop-id-preserved c =
    let l = c.args.local.now in
    let ids = c.args.ids.now in
    let i = c.loop-id.id-index in
    let id = c.id-item.result in
    let at = slice_get_read ids (length ids) i id refl c.loop-id-test.true c.id-item.is in
    told_as (emptied l) c.args.heap.now c.let_words_go.new.heap _ _ (λ q. refer_next l ids i id q at)
    (told_both (emptied l) c.args.heap.now c.loop-id.heap c.let_words_go.new.heap (refer_from l (take i ids)) _ c.loop-id.invariant
    (subst (λ (ws : List Word). Told (emptied l) c.loop-id.heap c.let_words_go.new.heap (refer_to ws)) (sym (words_found l id _ c.block_of.ensures.words)) c.let_words_go.ensures))

pub returns : goal.returns
returns c = subst (λ (ids : List BlockId). Told (emptied c.args.local.now) c.args.heap.now c.loop-id.heap (refer_from c.args.local.now ids)) (all_taken c.args.ids.now c.loop-id.id-index c.loop-id-test.false) c.loop-id.invariant
