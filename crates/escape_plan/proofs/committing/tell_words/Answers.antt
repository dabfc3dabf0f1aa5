use Rattle.std.proofs.Common.{List, length, refl, subst}
use Rattle.std.proofs.lemmas.Option.{slice_get_read}
use Rattle.az_base.specs.declared.word.Word.{Word}
use Rattle.local_set.proofs.Lists.{all_taken}
use Rattle.escape_plan.specs.Moving.{refer_to, Told}
use Rattle.escape_plan.proofs.Telling.{told_none, told_more, can_next}
use Rattle.escape_plan.proofs.committing.tell_words.Goals as goal

pub loop-word-init : goal.loop-word-init
loop-word-init c = told_none c.args.local.now c.args.heap.now

pub tell_word-requires : goal.tell_word-requires
tell_word-requires c =
    let ws = c.args.words.now in
    let i = c.loop-word.word-index in
    let w = c.word-item.result in
    can_next c.args.local.now c.args.heap.now c.loop-word.heap ws i w (slice_get_read ws (length ws) i w refl c.loop-word-test.true c.word-item.is) c.requires c.loop-word.invariant

pub loop-word-preserved : goal.loop-word-preserved
loop-word-preserved c =
    let ws = c.args.words.now in
    let i = c.loop-word.word-index in
    let w = c.word-item.result in
    told_more c.args.local.now c.args.heap.now c.loop-word.heap c.tell_word.new.heap ws i w (slice_get_read ws (length ws) i w refl c.loop-word-test.true c.word-item.is) c.loop-word.invariant c.tell_word.ensures

pub returns : goal.returns
returns c = subst (λ (ws : List Word). Told c.args.local.now c.args.heap.now c.loop-word.heap (refer_to ws)) (all_taken c.args.words.now c.loop-word.word-index c.loop-word-test.false) c.loop-word.invariant
