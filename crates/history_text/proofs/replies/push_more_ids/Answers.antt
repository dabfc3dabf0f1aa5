use Rattle.std.proofs.Common.{◌∷◌, ◌++◌, take, map, subst, sym, ap, ◌∙◌, arith}
use Rattle.std.proofs.lemmas.List.Elements.{All-more}
use Rattle.az_base.specs.Texts.{id_text}
use Rattle.call_words.specs.Spacing.{spread}
use Rattle.call_words.specs.Ranges.{IsId}
use Rattle.call_words.proofs.Spreading.{added}
use Rattle.history_text.proofs.Spreading.{one_word_more}
use Rattle.history_text.proofs.replies.push_more_ids.Goals as goal

pub loop-id-preserved : goal.loop-id-preserved
loop-id-preserved c =
    let ids = c.args.ids.now in
    let i = c.loop-id.id-index in
    let id = c.id-item.result in
    record {
      adds = added _ _ _ (spread (map id_text (take i ids))) (32 ∷ id_text id) _ c.loop-id.invariant.adds c.in_ok-push_id.ensures.adds
          (one_word_more id_text ids i id (omega arith) ∙ ap (λ x. spread (map id_text (take i ids)) ++ 32 ∷ id_text x) (sym c.id-item.is));
      range = All-more IsId ids i id (omega arith) c.loop-id.invariant.range (subst IsId c.id-item.is c.in_ok-push_id.ensures.range);
    }
