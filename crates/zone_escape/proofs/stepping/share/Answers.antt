use Rattle.std.proofs.Common.{◌++◌, ◌∷◌, [], ap, sym, subst, ◌∙◌, inr}
use Rattle.zone_escape.specs.Cores.{CoreShown, IsCore}
use Rattle.zone_escape.specs.Publications.{Flushed, Stepped}
use Rattle.zone_escape.proofs.Cores.{core_legal}
use Rattle.zone_escape.proofs.OpenCycles.{keeps_steps, keeps_lists}
use Rattle.zone_escape.proofs.Stepped.{can_make, refused, stepped, on_err, entry_same}
use Rattle.zone_escape.proofs.stepping.share.Goals as goal

pub returns-in_err-copy-clause-state : goal.returns-in_err-copy-clause-state
returns-in_err-copy-clause-state c = subst IsCore c.core.view_is c.core.invariant

pub returns-in_err-copy-clause-legal : goal.returns-in_err-copy-clause-legal
returns-in_err-copy-clause-legal c = core_legal _ (returns-in_err-copy-clause-state c)

pub make-requires-clause-can : goal.make-requires-clause-can
make-requires-clause-can c =
    let k : CoreShown = record { heap = c.core-2.inside.heap; journal = c.core-2.inside.journal } in
    can_make c.args.local.now c.publish.new.local c.args.core.now k c.args.call.now (subst IsCore c.core.view_is c.core.invariant) c.core-2.invariant c.requires.belongs
    (subst (λ (k : CoreShown). Flushed c.args.local.now c.publish.new.local c.args.core.now k) (sym c.core-2.view_is) c.in_ok-publish.ensures.ok) c.requires.running c.requires.shared c.requires.may

-- the call was refused
left : (c : goal.Joined-copy-3) → let n : CoreShown = record { heap = c.make.new.heap; journal = c.core-2.inside.journal } in IsCore n × Flushed c.args.local.now c.make.new.local c.args.core.now n
left c =
    let k : CoreShown = record { heap = c.core-2.inside.heap; journal = c.core-2.inside.journal } in
    refused c.args.local.now c.publish.new.local c.make.new.local c.args.core.now k c.make.new.heap c.core-2.invariant
    (subst (λ (k : CoreShown). Flushed c.args.local.now c.publish.new.local c.args.core.now k) (sym c.core-2.view_is) c.in_ok-publish.ensures.ok) c.in_err-answer.ensures.cycle c.in_err-answer.ensures.err

pub returns-in_err-answer-clause-err : goal.returns-in_err-answer-clause-err
returns-in_err-answer-clause-err c = on_err c.from_residual-in_err-answer.result (inr (left c).1)

pub returns-in_err-answer-clause-state : goal.returns-in_err-answer-clause-state
returns-in_err-answer-clause-state c = (left c).0

pub returns-in_err-answer-clause-legal : goal.returns-in_err-answer-clause-legal
returns-in_err-answer-clause-legal c = core_legal _ (left c).0

pub invariant_of-core : goal.invariant_of-core
invariant_of-core c =
    let k : CoreShown = record { heap = c.core-2.inside.heap; journal = c.core-2.inside.journal } in
    (refused c.args.local.now c.publish.new.local c.make.new.local c.args.core.now k c.make.new.heap c.core-2.invariant
    (subst (λ (k : CoreShown). Flushed c.args.local.now c.publish.new.local c.args.core.now k) (sym c.core-2.view_is) c.in_ok-publish.ensures.ok) c.in_err-answer.ensures.cycle c.in_err-answer.ensures.err).0

-- the call was made, and its entry pushed
pushed : (c : goal.After-push_reserved) → let n : CoreShown = record { heap = c.make.new.heap; journal = c.push_reserved.new.self } in IsCore n × Stepped c.args.local.now c.make.new.local c.args.core.now n c.args.call.now c.in_ok-answer.answer.reply
pushed c =
    let k : CoreShown = record { heap = c.core-2.inside.heap; journal = c.core-2.inside.journal } in
    let made = c.in_ok-answer.ensures in
    let e = entry_same c.publish.new.local.thread c.thread.result c.args.call.now c.in_ok-copy.copy c.in_ok-answer.answer.reply c.in_ok-answer.answer.copy (c.thread.ensures ∙ made.ok.thread) c.in_ok-copy.ensures made.same in
    stepped c.args.local.now c.publish.new.local c.make.new.local c.args.core.now k c.make.new.heap c.core-2.invariant
    (subst (λ (k : CoreShown). Flushed c.args.local.now c.publish.new.local c.args.core.now k) (sym c.core-2.view_is) c.in_ok-publish.ensures.ok)
    c.args.call.now c.in_ok-answer.answer.reply c.push_reserved.new.self c.in_range.ensures (keeps_steps k.heap c.make.new.heap made.cycle ∙ sym (c.core-2.invariant.1.owed) ∙ sym c.push_reserved.ensures.owed) (keeps_lists k.heap c.make.new.heap made.cycle c.core-2.invariant.1.lists) made.ok (c.push_reserved.ensures.entries ∙ ap (λ e. k.journal.entries ++ e ∷ []) e) made.ended

pub invariant_of-core-2 : goal.invariant_of-core-2
invariant_of-core-2 c = (pushed c).0

pub returns-clause-ok : goal.returns-clause-ok
returns-clause-ok c = (pushed c).1

pub returns-clause-state : goal.returns-clause-state
returns-clause-state c = (pushed c).0

pub returns-clause-legal : goal.returns-clause-legal
returns-clause-legal c = core_legal _ (pushed c).0
