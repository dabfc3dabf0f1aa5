use Rattle.std.proofs.Common.{◌∙◌, ap, sym, subst}
use Rattle.zone_model.specs.State.{referent}
use Rattle.shared_heap.specs.Stands.{Stands}
use Rattle.shared_heap.specs.Words.{word_in}
use Rattle.shared_heap.proofs.Standing.{more_stands}
use Rattle.shared_heap.proofs.Stepping.{misused, load_misuse, load_step}
use Rattle.shared_heap.proofs.heap.Heap.load.Goals as goal

pub returns-in-Err-clause-step : goal.returns-in-Err-clause-step
returns-in-Err-clause-step c = λ z to reg runs holds.
    misused c.args.self.now z c.args.t _ c.in-Err.misuse runs (λ id n. n) (load_misuse c.args.self.now c.args.self.now z c.args.t reg c.args.at c.args.from runs c.requires.given holds to ∙ c.in-Err.ensures)

pub returns-in_ok-hold_more-in-Ok-clause-step : goal.returns-in_ok-hold_more-in-Ok-clause-step
returns-in_ok-hold_more-in-Ok-clause-step c = λ z to reg runs holds.
    load_step c.args.self.now c.hold_more.new.self z c.args.t reg c.args.at c.args.from runs c.requires.given holds to c.referent_at-value.result c.in-Ok.ensures.2
    (c.referent_at-value.ensures ∙ ap (λ a. referent (word_in c.args.self.now a c.args.at)) (sym c.in-Ok.ensures.0))
    (subst (λ h. Stands h z) (sym c.in_ok-hold_more-in-Ok.ensures.ok) (more_stands c.args.self.now z c.args.t c.referent_at-value.result runs.stands))
