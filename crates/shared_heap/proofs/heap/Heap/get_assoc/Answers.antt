use Rattle.std.proofs.Common.{◌∙◌, ap, sym, subst}
use Rattle.std.specs.FinMap.{get}
use Rattle.shared_heap.specs.Shared.{Shared}
use Rattle.shared_heap.specs.Stands.{Stands}
use Rattle.shared_heap.proofs.Assocs.{get_null, get_step}
use Rattle.shared_heap.proofs.Standing.{more_stands}
use Rattle.shared_heap.proofs.heap.Heap.get_assoc.Goals as goal

pub returns-in_default-clause-step : goal.returns-in_default-clause-step
returns-in_default-clause-step c = λ z to reg runs holds.
    get_null c.args.self.now z c.args.t to reg c.args.key c.args.object runs holds c.in_default.is

pub returns-clause-step : goal.returns-clause-step
returns-clause-step c = λ z to reg runs holds.
    get_step c.args.self.now z c.args.t to reg c.args.key c.args.object runs holds c.hold_more.new.self c.in-Some.object c.get-value.result c.in-Some.is
    (c.get-value.ensures ∙ ap (λ (h : Shared). get h.assocs (c.in-Some.object, c.args.key.0)) c.self.view_is)
    (subst (λ h. Stands h z) (sym c.in_ok-hold_more.ensures.ok) (more_stands c.args.self.now z c.args.t c.get-value.result runs.stands))
