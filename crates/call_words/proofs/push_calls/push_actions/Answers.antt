use Rattle.std.proofs.Common.{take, get_or, arith}
use Rattle.std.proofs.lemmas.List.Elements.{All-more}
use Rattle.az_base.specs.declared.action.Action.TheVariants as action
use Rattle.call_words.specs.Spacing.{spread}
use Rattle.call_words.specs.Words.{action_words, actions_words}
use Rattle.call_words.specs.Ranges.{IsAction}
use Rattle.call_words.proofs.Spreading.{words_more, added}
use Rattle.call_words.proofs.push_calls.push_actions.Goals as goal

pub loop-action-preserved : goal.loop-action-preserved
loop-action-preserved c =
    let actions = c.args.actions.now in
    let i = c.loop-action.action-index in
    let first = action.Keep (record { 0 = 0 }) in
    record {
      adds = added _ _ _ (spread (actions_words (take i actions))) (spread (action_words (get_or actions i first))) _ c.loop-action.invariant.adds c.in_ok-push_action.ensures.adds
          (words_more action_words actions i first (omega arith));
      range = All-more IsAction actions i first (omega arith) c.loop-action.invariant.range c.in_ok-push_action.ensures.range;
    }
