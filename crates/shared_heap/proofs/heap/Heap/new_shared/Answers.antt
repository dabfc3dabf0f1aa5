use Rattle.std.proofs.Common.{◌∙◌, ap, sym}
use Rattle.shared_heap.specs.Shared.{with_birth}
use Rattle.shared_heap.specs.Words.{birth_misuse}
use Rattle.shared_heap.proofs.Births.{birth_misused, birth_step}
use Rattle.shared_heap.proofs.Holding.{held_born}
use Rattle.shared_heap.proofs.heap.Heap.new_shared.Goals as goal

pub returns-in-Err-clause-step : goal.returns-in-Err-clause-step
returns-in-Err-clause-step c = λ z to runs born next.
    birth_misused c.args.self.now z c.args.t to c.args.layout.now c.args.actions.now runs born c.args.id c.in-Err.misuse next (rw c.as_slice.ensures.actions at c.in-Err.ensures)

pub returns-in_ok-add_born-in-Ok-clause-held : goal.returns-in_ok-add_born-in-Ok-clause-held
returns-in_ok-add_born-in-Ok-clause-held c = λ u q. rw c.in_ok-add_born-in-Ok.ensures.ok (held_born c.args.self.now c.args.t c.in-Ok.id c.args.layout.now c.as_slice-in-Ok.result.now u q)

pub returns-in_ok-add_born-in-Ok-clause-step : goal.returns-in_ok-add_born-in-Ok-clause-step
returns-in_ok-add_born-in-Ok-clause-step c = λ z to runs born next.
    birth_step c.args.self.now z c.args.t to c.args.layout.now c.args.actions.now runs born c.add_born.new.self c.in-Ok.id (sym c.in-Ok.ensures.0 ∙ next)
    (rw c.as_slice.ensures.actions at (ap (λ id. birth_misuse c.args.self.now id c.args.layout.now c.as_slice.result.now) (sym c.in-Ok.ensures.0) ∙ c.in-Ok.ensures.1))
    (c.in_ok-add_born-in-Ok.ensures.ok ∙ ap (λ actions. with_birth c.args.self.now c.args.t c.in-Ok.id c.args.layout.now actions) c.as_slice-in-Ok.ensures.actions)
