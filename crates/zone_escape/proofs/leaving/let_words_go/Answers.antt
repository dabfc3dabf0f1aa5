use Rattle.std.proofs.Common.{List, length, refl, subst}
use Rattle.std.proofs.lemmas.Option.{slice_get_read}
use Rattle.az_base.specs.declared.word.Word.{Word}
use Rattle.local_set.proofs.Lists.{all_taken}
use Rattle.escape_plan.specs.Moving.{refer_to, Told}
use Rattle.escape_plan.proofs.Telling.{told_none, told_more}
use Rattle.zone_escape.specs.Telling.{emptied}
use Rattle.zone_escape.proofs.leaving.let_words_go.Goals as goal

pub loop-word-init : goal.loop-word-init
loop-word-init c = told_none (emptied c.args.local.now) c.args.heap.now

pub loop-word-preserved : goal.loop-word-preserved
loop-word-preserved c =
    let ws = c.args.words.now in
    let i = c.loop-word.word-index in
    let w = c.word-item.result in
    told_more (emptied c.args.local.now) c.args.heap.now c.loop-word.heap c.let_word_go.new.heap ws i w (slice_get_read ws (length ws) i w refl c.loop-word-test.true c.word-item.is) c.loop-word.invariant c.let_word_go.ensures

pub returns : goal.returns
returns c = subst (λ (ws : List Word). Told (emptied c.args.local.now) c.args.heap.now c.loop-word.heap (refer_to ws)) (all_taken c.args.words.now c.loop-word.word-index c.loop-word-test.false) c.loop-word.invariant
