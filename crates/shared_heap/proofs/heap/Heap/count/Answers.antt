use Rattle.std.proofs.Common.{◌∙◌, ap}
use Rattle.shared_heap.specs.Retained.{count_of}
use Rattle.shared_heap.specs.Shared.{Shared}
use Rattle.shared_heap.proofs.Retained.{count_step, count_misused}
use Rattle.shared_heap.proofs.heap.Heap.count.Goals as goal

pub returns-in-Some-clause-step : goal.returns-in-Some-clause-step
returns-in-Some-clause-step c = λ z reg runs holds.
    count_step c.args.self.now c.args.self.now z c.args.t reg runs c.in-Some.id c.from.result (holds ∙ c.in-Some.is) (c.from.ensures ∙ c.count.ensures.value ∙ ap (λ (h : Shared). count_of h c.in-Some.id) c.self.view_is)

pub returns-in-None-clause-step : goal.returns-in-None-clause-step
returns-in-None-clause-step c = λ z reg runs holds.
    count_misused c.args.self.now c.args.self.now z c.args.t reg runs (holds ∙ c.in-None.is)
