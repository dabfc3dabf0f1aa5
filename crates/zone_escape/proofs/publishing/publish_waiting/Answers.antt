use Rattle.std.proofs.Common.{◌≡◌, ◌++◌, List, [], length, sym, ap, subst, ◌∙◌}
use Rattle.zone_model.specs.declared.entry.Entry.{Entry}
use Rattle.zone_history.specs.Journals.{Recorded}
use Rattle.local_set.specs.LocalSets.{LocalSet}
use Rattle.zone_escape.specs.Cores.{CoreShown, IsCore, IsCoreOf, BelongsTo}
use Rattle.zone_escape.specs.Publications.{Flushed}
use Rattle.zone_escape.proofs.Cores.{core_legal}
use Rattle.zone_escape.proofs.Published.{flushed}
use Rattle.zone_escape.proofs.publishing.publish_waiting.Goals as goal

pub invariant_of-core : goal.invariant_of-core
invariant_of-core c = subst (λ (j : Recorded). IsCore (record { heap = c.core.inside.heap; journal = j })) (sym c.in_err-reserve.ensures.err) c.core.invariant

pub returns-in_err-reserve-clause-legal : goal.returns-in_err-reserve-clause-legal
returns-in_err-reserve-clause-legal c = core_legal _ (invariant_of-core c)

pub tell-requires : goal.tell-requires
tell-requires c = let is = c.core.invariant in (is.0, c.requires is.0 (subst (λ (k : CoreShown). IsCoreOf k is.0) c.core.view_is is.1), is.1.heap)

-- all was published
done : (c : goal.After-has_sixteen) → let n : CoreShown = record { heap = c.tell.new.heap; journal = c.push_waiting.new.journal } in IsCore n × Flushed c.args.local.now c.mark_published.new.self c.args.core.now n
done c =
    let l = c.args.local.now in
    let k : CoreShown = record { heap = c.core.inside.heap; journal = c.core.inside.journal } in
    let n : CoreShown = record { heap = c.tell.new.heap; journal = c.push_waiting.new.journal } in
    let same : c.mark_published.new.self ≡ record l { published = l.registers; changed = []; waiting = []; spare = c.push_waiting.new.local.spare } =
    c.mark_published.ensures ∙ ap (λ (s : LocalSet). record s { published = s.registers; changed = [] }) c.push_waiting.ensures.local in
    let sixteen = ap (λ (s : LocalSet). length s.registers) (sym c.push_waiting.ensures.local) ∙ ap (λ (s : LocalSet). length s.published) (sym c.mark_published.ensures) ∙ c.has_sixteen.ensures in
    let all = flushed l c.push_waiting.new.local.spare k n sixteen c.core.invariant (subst (BelongsTo l) (sym c.core.view_is) c.requires)
    (c.push_waiting.ensures.entries ∙ ap (λ (es : List Entry). es ++ l.waiting) c.in_ok-reserve.ensures.entries) (c.push_waiting.ensures.owed ∙ c.in_ok-reserve.ensures.owed) c.tell.ensures in
    (all.0, subst (λ (k : CoreShown). Flushed l c.mark_published.new.self k n) c.core.view_is (subst (λ (m : LocalSet). Flushed l m k n) (sym same) all.1))

pub invariant_of-core-2 : goal.invariant_of-core-2
invariant_of-core-2 c = (done c).0

pub returns-clause-ok : goal.returns-clause-ok
returns-clause-ok c = (done c).1

pub returns-clause-legal : goal.returns-clause-legal
returns-clause-legal c = core_legal _ (done c).0

pub returns-in_err-reserve-clause-state : goal.returns-in_err-reserve-clause-state
returns-in_err-reserve-clause-state c = invariant_of-core c

pub returns-clause-state : goal.returns-clause-state
returns-clause-state c = (done c).0
