use Rattle.std.proofs.Common.{◌≤◌, ◌+◌, ◌++◌, ◌∷◌, [], refl, sym, ap, subst, ◌∙◌}
use Rattle.zone_model.specs.Part.{Part}
use Rattle.local_set.specs.LocalSets.{part_in}
use Rattle.zone_escape.specs.Cores.{CoreShown, IsCore, steps_left}
use Rattle.zone_escape.specs.Cycles.{call_of}
use Rattle.zone_escape.specs.Publications.{Flushed, Stepped}
use Rattle.zone_escape.proofs.Closing.{closing_ends, closing_range, closing_shared, goes_on}
use Rattle.zone_escape.proofs.Cores.{core_legal}
use Rattle.zone_escape.proofs.Stepped.{can_make, core_together, may_now, advanced_at, entry_same}
use Rattle.zone_escape.proofs.cycles.close.Goals as goal

pub go_on-answer-requires : goal.go_on-answer-requires
go_on-answer-requires c =
    let old = c.args.local.now in
    let l = c.publish.new.local in
    let k : CoreShown = record { heap = c.core-2.inside.heap; journal = c.core-2.inside.journal } in
    let before = subst IsCore c.core.view_is c.core.invariant in
    let is = c.core-2.invariant in
    let flushed = subst (λ (k : CoreShown). Flushed old l c.args.core.now k) (sym c.core-2.view_is) c.in_ok-publish.ensures.ok in
    let the_call = call_of c.args.step in
    record {
      can = can_make old l c.args.core.now k the_call before is c.requires.belongs flushed c.requires.running (closing_shared (part_in old) c.args.step) c.requires.may;
      state = (is.0, core_together l k is.0 (flushed.published.belongs is.0 is.1) is.1, is.1.range);
      goes = goes_on k.heap is.0 l.thread c.args.step is.1.heap.stands (sym c.to_finalise-left.ensures.value ∙ c.to_finalise-left.ensures.stands is.0 is.1.heap.stands) (may_now old l c.args.core.now k the_call before is c.requires.belongs flushed c.requires.may);
      lists = is.1.lists;
    }

pub push_step-requires : goal.push_step-requires
push_step-requires c = subst (λ n. n + 1 ≤ c.core-2.inside.journal.owed) (sym c.still_to_come-left.ensures) (subst (λ n. steps_left c.go_on-answer.new.heap + 1 ≤ n) (sym c.core-2.invariant.1.owed) c.go_on-answer.ensures.left)

-- the step was made, and its entry pushed
pushed : (c : goal.After-push_step) → let n : CoreShown = record { heap = c.go_on-answer.new.heap; journal = c.push_step.new.journal } in IsCore n × Stepped c.args.local.now c.publish.new.local c.args.core.now n (call_of c.args.step) c.go_on-answer.result.reply
pushed c =
    let l = c.publish.new.local in
    let k : CoreShown = record { heap = c.core-2.inside.heap; journal = c.core-2.inside.journal } in
    let done = c.go_on-answer.ensures in
    let flushed = subst (λ (k : CoreShown). Flushed c.args.local.now l c.args.core.now k) (sym c.core-2.view_is) c.in_ok-publish.ensures.ok in
    let entry = entry_same l.thread c.thread.result (call_of c.args.step) c.call.result c.go_on-answer.result.reply c.go_on-answer.result.copy c.thread.ensures c.call.ensures done.same in
    advanced_at c.args.local.now l l c.args.core.now k c.go_on-answer.new.heap c.core-2.invariant flushed (call_of c.args.step) c.go_on-answer.result.reply c.push_step.new.journal refl (closing_range c.args.step)
    (sym c.still_to_come-left.ensures ∙ sym c.push_step.ensures.owed) done.lists done.makes (c.push_step.ensures.entries ∙ ap (λ e. k.journal.entries ++ e ∷ []) entry)
    (ap (λ (p : Part). p.ended) flushed.part ∙ c.requires.running ∙ sym (closing_ends c.args.step))

pub invariant_of-core : goal.invariant_of-core
invariant_of-core c = (pushed c).0

pub returns-clause-ok : goal.returns-clause-ok
returns-clause-ok c = (pushed c).1

pub returns-clause-state : goal.returns-clause-state
returns-clause-state c = (pushed c).0

pub returns-clause-legal : goal.returns-clause-legal
returns-clause-legal c = core_legal _ (pushed c).0
