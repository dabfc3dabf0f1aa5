use Rattle.std.proofs.Common.{◌∙◌, ap, not, take}
use Rattle.std.specs.FinMap.{retain_keys}
use Rattle.zone_model.specs.State.{is_word_of}
use Rattle.weak_table.proofs.Showing.{take-next}
use Rattle.shared_heap.proofs.Forgetting.{forgotten_more, forgotten_none}
use Rattle.shared_heap.proofs.heap.cycles.forget_words.Goals as goal

pub loop-id-init : goal.loop-id-init
loop-id-init c = forgotten_none c.args.weak.now.shown

pub loop-id-preserved : goal.loop-id-preserved
loop-id-preserved c =
    c.forget_in.ensures.shown
    ∙ forgotten_more c.args.weak.now.shown (take c.loop-id.id-index c.args.gone.now) c.id-item.result c.loop-id.weak.shown c.loop-id.invariant
    ∙ ap (λ xs. retain_keys c.args.weak.now.shown (λ q. not (is_word_of xs q))) (take-next c.args.gone.now c.loop-id.id-index c.id-item.result c.loop-id-test.true c.id-item.is)
