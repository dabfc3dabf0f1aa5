use Rattle.std.proofs.Common.{length, refl, ap, ◌∙◌, ◌++◌, ◌∷◌, []}
use Rattle.std.proofs.lemmas.Option.{slice_get_read}
use Rattle.escape_plan.proofs.Sorting.{keys_next, values_next}
use Rattle.escape_plan.proofs.preparing.Lengths.of.Goals as goal

pub loop-block-preserved : goal.loop-block-preserved
loop-block-preserved c =
    let bs = c.args.blocks.now in
    let i = c.loop-block.block-index in
    let b = c.block-item.result in
    let at = slice_get_read bs (length bs) i b refl c.loop-block-test.true c.block-item.is in
    record {
      ids = c.in-Ok.ensures.items ∙ ap (λ l. l ++ b.0 ∷ []) c.loop-block.invariant.ids ∙ keys_next bs i b at;
      lengths = c.in-Ok-push.ensures.items ∙ ap (λ l. l ++ b.1 ∷ []) c.loop-block.invariant.lengths ∙ values_next bs i b at;
    }
