use Rattle.std.proofs.Common.{◌∙◌, ap, sym, subst, Some}
use Rattle.shared_heap.specs.Retained.{count_of}
use Rattle.shared_heap.specs.Shared.{Shared}
use Rattle.shared_heap.specs.Stands.{Stands}
use Rattle.shared_heap.proofs.Standing.{more_stands}
use Rattle.shared_heap.proofs.Retained.{take_misused, take_step}
use Rattle.shared_heap.proofs.heap.Heap.take_held.Goals as goal

pub returns-then-count-eq0-clause-step : goal.returns-then-count-eq0-clause-step
returns-then-count-eq0-clause-step c = λ z to runs.
    take_misused c.args.self.now z c.args.t to c.args.id c.count.result runs (c.count.ensures.value ∙ ap (λ (h : Shared). count_of h c.args.id) c.self.view_is) c.if-count-eq0.true

pub returns-clause-step : goal.returns-clause-step
returns-clause-step c = λ z to runs.
    take_step c.args.self.now c.hold_more.new.self z c.args.t to c.args.id c.count.result runs (c.count.ensures.value ∙ ap (λ (h : Shared). count_of h c.args.id) c.self.view_is) c.if-count-eq0.false
    (subst (λ h. Stands h z) (sym c.in_ok-hold_more.ensures.ok) (more_stands c.args.self.now z c.args.t (Some c.args.id) runs.stands))
