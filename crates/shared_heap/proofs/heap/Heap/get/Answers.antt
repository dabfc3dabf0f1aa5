use Rattle.std.proofs.Common.{◌∙◌, ap}
use Rattle.shared_heap.specs.Words.{word_in}
use Rattle.shared_heap.proofs.Stepping.{misused, get_misuse, get_step}
use Rattle.shared_heap.proofs.heap.Heap.get.Goals as goal

pub returns-in-Err-clause-step : goal.returns-in-Err-clause-step
returns-in-Err-clause-step c = λ z reg runs holds.
    misused c.args.self.now z c.args.t _ c.in-Err.misuse runs (λ id n. n) (get_misuse c.args.self.now c.args.self.now z c.args.t reg c.args.at c.args.from runs c.requires.given holds ∙ c.in-Err.ensures)

pub returns-in-Ok-clause-step : goal.returns-in-Ok-clause-step
returns-in-Ok-clause-step c = λ z reg runs holds.
    get_step c.args.self.now c.args.self.now z c.args.t reg c.args.at c.args.from runs c.requires.given holds c.number_at.result c.in-Ok.ensures.2
    (ap (λ a. word_in c.args.self.now a c.args.at) c.in-Ok.ensures.0 ∙ c.number_at.ensures)
