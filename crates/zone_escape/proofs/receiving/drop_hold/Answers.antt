use Rattle.std.proofs.Common.{sym, subst, ◌∙◌}
use Rattle.zone_escape.specs.Receiving.{CountsOnceMore}
use Rattle.zone_escape.proofs.Received.{unescaped_more, told_agrees}
use Rattle.zone_escape.proofs.receiving.drop_hold.Goals as goal

pub returns-then-not-has-clause-agree : goal.returns-then-not-has-clause-agree
returns-then-not-has-clause-agree c = λ z k.
    let h = c.args.heap.now in
    unescaped_more h z c.args.local.now.thread c.in-Some.id (sym (c.has.ensures.stands z k.stands) ∙ c.if-not-has.true) (subst (λ o. CountsOnceMore c.args.local.now h o z) c.in-Some.is k).holds

pub returns-clause-agree : goal.returns-clause-agree
returns-clause-agree c = λ z k.
    let h = c.args.heap.now in
    told_agrees c.args.local.now h c.hold_count.new.self c.in-Some.id z _ _ c.thread.ensures c.holds_of.ensures c.in-Ok.ensures.held (subst (λ o. CountsOnceMore c.args.local.now h o z) c.in-Some.is k)
