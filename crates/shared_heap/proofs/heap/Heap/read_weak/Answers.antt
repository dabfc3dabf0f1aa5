use Rattle.std.proofs.Common.{◌∙◌, sym, subst}
use Rattle.shared_heap.specs.Stands.{Stands}
use Rattle.shared_heap.proofs.Standing.{more_stands}
use Rattle.shared_heap.proofs.Weak.{read_misused, read_step}
use Rattle.shared_heap.proofs.heap.Heap.read_weak.Goals as goal

pub returns-in-Some-clause-step : goal.returns-in-Some-clause-step
returns-in-Some-clause-step c = λ z to l runs at.
    read_misused c.args.self.now z c.args.t runs to l c.args.loc c.in-Some.misuse c.requires.given at (sym c.loc_misuse.ensures ∙ c.in-Some.is)

pub returns-in_ok-hold_more-in-None-clause-step : goal.returns-in_ok-hold_more-in-None-clause-step
returns-in_ok-hold_more-in-None-clause-step c = λ z to l runs at.
    read_step c.args.self.now z c.args.t runs c.tell.new.self to l c.args.loc c.read-value.result c.requires.given at (sym c.loc_misuse.ensures ∙ c.in-None.is) (rw (← c.self.view_is) c.read-value.ensures) c.hold_more.new.self
    (subst (λ h. Stands h z) (sym c.in_ok-hold_more-in-None.ensures.ok) (more_stands c.args.self.now z c.args.t c.read-value.result runs.stands))
    c.tell.ensures.value c.tell.ensures.livens
