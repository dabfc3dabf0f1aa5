use Rattle.std.proofs.Common.{◌∙◌, sym, subst}
use Rattle.shared_heap.specs.Stands.{Stands}
use Rattle.shared_heap.proofs.Standing.{more_stands}
use Rattle.shared_heap.proofs.Stepping.{get_root_step}
use Rattle.shared_heap.proofs.heap.Heap.get_root.Goals as goal

pub returns-clause-step : goal.returns-clause-step
returns-clause-step c = λ z to runs.
    get_root_step c.args.self.now c.hold_more.new.self z c.args.t to c.args.root.0 c.get-value.result runs
    (sym (runs.stands.roots c.args.root.0) ∙ rw (← c.self.view_is) (sym c.get-value.ensures))
    (subst (λ h. Stands h z) (sym c.in_ok-hold_more.ensures.ok) (more_stands c.args.self.now z c.args.t c.get-value.result runs.stands))
