use Rattle.std.proofs.Common.{◌≡◌, ◌∙◌, Some, ap, subst, sym, not}
use Rattle.std.specs.FinMap.{get, retain_keys}
use Rattle.zone_model.specs.Collection.{shows_one}
use Rattle.heap_cycle.specs.Collects.{Collects, collector_of}
use Rattle.shared_heap.specs.Cycles.{Condemned}
use Rattle.shared_heap.specs.Holding.{Serves}
use Rattle.shared_heap.specs.Shared.{Shared}
use Rattle.shared_heap.proofs.CondemnedHeap.{condemns, may_condemn}
use Rattle.shared_heap.proofs.CycleSteps.{condemn_step}
use Rattle.shared_heap.proofs.Opened.{seen_with}
use Rattle.shared_heap.proofs.Sliced.{fresh_of}
use Rattle.shared_heap.proofs.heap.Heap.condemn.Goals as goal

pub returns-clause-after : goal.returns-clause-after
returns-clause-after c =
    let h = c.self.inside in
    let r = c.condemn-cycle.result.1.list in
    let new = c.condemn-cycle.new.tables in
    let after = c.condemn-cycle.result.0 in
    let now : c.args.self.now ≡ seen_with h.options h.tables h.weak.shown h.weak.ready (collector_of h.tables (Some c.in-Some.cycle)) = sym c.self.view_is ∙ ap (λ o. seen_with h.options h.tables h.weak.shown h.weak.ready (collector_of h.tables o)) (sym c.in-Some.ensures.value) in
    let fresh = fresh_of h.tables c.in-Some.cycle c.args.self.now c.args.t (ap (λ (k : Shared). k.gc) now) c.requires.marking in
    let then : seen_with h.options new c.condemn.new.self.shown c.condemn.new.self.ready (collector_of new c.put.new.slot) ≡ seen_with h.options new c.condemn.new.self.shown c.condemn.new.self.ready (collector_of new (Some after)) = ap (λ o. seen_with h.options new c.condemn.new.self.shown c.condemn.new.self.ready (collector_of new o)) c.put.ensures in
    let weak : c.condemn.new.self.shown ≡ retain_keys h.weak.shown (λ l. not (shows_one r (get h.weak.shown l))) = c.condemn.ensures.shown ∙ ap (λ xs. retain_keys h.weak.shown (λ l. not (shows_one xs (get h.weak.shown l)))) c.as_slice.ensures in
    subst (λ k. Condemned c.args.self.now r k) (sym then) (subst (λ k. Condemned k r (seen_with h.options new c.condemn.new.self.shown c.condemn.new.self.ready (collector_of new (Some after)))) (sym now)
    (condemns h.tables new c.in-Some.cycle after r fresh c.condemn-cycle.ensures.condemned h.options h.weak.shown c.condemn.new.self.shown h.weak.ready c.condemn.new.self.ready weak c.condemn.ensures.ready))

pub returns-clause-step : goal.returns-clause-step
returns-clause-step c =
    let h = c.self.inside in
    let now : c.args.self.now ≡ seen_with h.options h.tables h.weak.shown h.weak.ready (collector_of h.tables (Some c.in-Some.cycle)) = sym c.self.view_is ∙ ap (λ o. seen_with h.options h.tables h.weak.shown h.weak.ready (collector_of h.tables o)) (sym c.in-Some.ensures.value) in
    let fresh = fresh_of h.tables c.in-Some.cycle c.args.self.now c.args.t (ap (λ (k : Shared). k.gc) now) c.requires.marking in
    λ z serves. condemn_step c.args.self.now _ z c.args.t c.condemn-cycle.result.1 serves c.requires.marking (returns-clause-after c)
    (may_condemn h.tables c.condemn-cycle.new.tables c.in-Some.cycle c.condemn-cycle.result.0 c.condemn-cycle.result.1.list fresh c.condemn-cycle.ensures.condemned h.options h.weak.shown h.weak.ready z c.args.t
    (subst (λ o. Collects h.tables o) (sym c.in-Some.ensures.value) c.self.invariant.collects) c.are_tables.ensures (subst (λ k. Serves k z c.args.t) now serves))
