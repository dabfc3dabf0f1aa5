use Rattle.std.proofs.Common.{◌≡◌, ◌+◌, ◌-◌, Option, Some, None, length-append, arith, ap, ◌∙◌}
use Rattle.std.proofs.lemmas.Result.{err_from_is_err_and}
use Rattle.call_words.specs.Reading.Calls.{next_action, actions_at}
use Rattle.call_words.proofs.Actions.{at_first, grows, ends, stops, is_full}
use Rattle.call_words.proofs.memory.next_actions.Goals as goal

pub loop-used-init : goal.loop-used-init
loop-used-init c = record { read = rw c.new-actions.ensures.items (at_first c.args.most c.args.words.now); count = rw c.new-actions.ensures.items (omega arith) }

pub returns-in_err-action : goal.returns-in_err-action
returns-in_err-action c =
    let p = err_from_is_err_and c.from_residual.result c.from_residual.ensures.1 in
    rw (p.1, p.2)
    (stops c.loop-used.actions.items c.args.most c.loop-used.used c.loop-used.words c.next_action.new.words c.in_err-action.field-0.0 (actions_at c.args.most c.args.words.now) (omega arith)
    c.in_err-action.ensures c.loop-used.invariant.read)

pub returns-in-None : goal.returns-in-None
returns-in-None c =
    let e : next_action c.loop-used.words ≡ Some (None, c.next_action.new.words) = c.in_ok-action.ensures ∙ ap {B = Option _} (λ o. Some (o, c.next_action.new.words)) c.in-None.is in
    rw (c.listed.ensures, c.deref.ensures.value)
    (ends c.loop-used.actions.items c.args.most c.loop-used.used c.loop-used.words c.next_action.new.words (actions_at c.args.most c.args.words.now) (omega arith) e c.loop-used.invariant.read)

pub loop-used-preserved : goal.loop-used-preserved
loop-used-preserved c =
    let e : next_action c.loop-used.words ≡ Some (Some c.in-Some.action, c.next_action.new.words) = c.in_ok-action.ensures ∙ ap {B = Option _} (λ o. Some (o, c.next_action.new.words)) c.in-Some.is in
    record {
      read = rw c.in_ok-push-in-Some.ensures.items
          (grows c.loop-used.actions.items c.args.most c.loop-used.used c.loop-used.words c.next_action.new.words c.in-Some.action (actions_at c.args.most c.args.words.now) (omega arith) e c.loop-used.invariant.read);
      count = rw c.in_ok-push-in-Some.ensures.items (length-append c.loop-used.actions.items _ ∙ ap (λ n. n + 1) c.loop-used.invariant.count);
    }

pub returns : goal.returns
returns c =
    rw (c.listed-2.ensures, c.deref-2.ensures.value)
    (is_full c.loop-used.actions.items (c.args.most - c.loop-used.used) c.loop-used.words (actions_at c.args.most c.args.words.now) (omega arith) c.loop-used.invariant.read)
