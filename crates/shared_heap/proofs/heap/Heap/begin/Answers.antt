use Rattle.std.proofs.Common.{◌≡◌, ◌∙◌, None, true, is_some, ap, subst, sym}
use Rattle.zone_model.specs.declared.call.Call.TheVariants as call
use Rattle.zone_model.specs.declared.entry.Reply.TheVariants as reply
use Rattle.heap_cycle.specs.Collects.{Collects, collector_of}
use Rattle.shared_heap.specs.Cycles.{Opens}
use Rattle.shared_heap.specs.Holding.{Serves}
use Rattle.shared_heap.specs.Shared.{Shared}
use Rattle.shared_heap.specs.Steps.{Stepped}
use Rattle.shared_heap.proofs.CycleSteps.{busy_of, busy_step}
use Rattle.shared_heap.proofs.Opened.{none_is, open_some, opened_step, opens, seen_with}
use Rattle.shared_heap.proofs.heap.Heap.begin.Goals as goal

pub returns-then-is_some-clause-step : goal.returns-then-is_some-clause-step
returns-then-is_some-clause-step c =
    let there : is_some c.args.self.now.gc.cycle ≡ true = ap (λ (h : Shared). is_some h.gc.cycle) (sym c.self.view_is) ∙ open_some c.self.inside.tables c.self.inside.open_cycle (sym c.is_some.ensures ∙ c.if-is_some.true) in
    λ z serves. busy_step c.args.self.now z c.args.t c.args.mode serves (busy_of c.args.self.now c.args.t c.requires.own there)

pub returns-clause-cycle : goal.returns-clause-cycle
returns-clause-cycle c =
    let h = c.self.inside in
    let none : h.open_cycle ≡ None = none_is h.open_cycle (sym c.is_some.ensures ∙ c.if-is_some.false) in
    let keeps : Collects h.tables None = subst (λ o. Collects h.tables o) none c.self.invariant.collects in
    let given = c.in_ok-cycle.ensures.given in
    subst (λ o. Opens c.args.self.now c.args.t c.args.mode (collector_of c.begin.new.tables o)) (sym c.put.ensures)
    (opens h.tables c.begin.new.tables c.args.mode c.in_ok-cycle.cycle keeps.cards keeps.old c.in_ok-cycle.ensures.ok c.args.self.now c.args.t (ap (λ (k : Shared). k.blocks) (sym c.self.view_is))
    (ap (λ (k : Shared). k.gc) (sym c.self.view_is) ∙ ap (collector_of h.tables) none) c.in_ok-cycle.ensures.table given.0 given.1 (given.2 ∙ sym c.self.invariant.unfinalised))

pub returns-clause-step : goal.returns-clause-step
returns-clause-step c =
    let h = c.self.inside in
    let none : h.open_cycle ≡ None = none_is h.open_cycle (sym c.is_some.ensures ∙ c.if-is_some.false) in
    let keeps : Collects h.tables None = subst (λ o. Collects h.tables o) none c.self.invariant.collects in
    let given = c.in_ok-cycle.ensures.given in
    let new = c.begin.new.tables in
    let now : c.args.self.now ≡ seen_with h.options h.tables h.weak.shown h.weak.ready (collector_of h.tables None) = sym c.self.view_is ∙ ap (λ o. seen_with h.options h.tables h.weak.shown h.weak.ready (collector_of h.tables o)) none in
    λ z serves. subst (λ o. Stepped (seen_with h.options new h.weak.shown h.weak.ready (collector_of new o)) z c.args.t (call.Begin c.args.mode) reply.Begun) (sym c.put.ensures)
    (opened_step h.tables new c.args.mode c.in_ok-cycle.cycle keeps.cards keeps.old c.in_ok-cycle.ensures.ok h.options h.weak.shown h.weak.ready c.args.t z c.are_tables.ensures given.0 given.1 (given.2 ∙ sym c.self.invariant.unfinalised)
    (subst (λ k. Serves k z c.args.t) now serves))
