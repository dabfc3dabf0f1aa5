use Rattle.std.proofs.Common.{◌≡◌, ◌∙◌, Some, ap, subst, sym, arith, unwrap_or}
use Rattle.std.specs.FinMap.{get}
use Rattle.zone_model.specs.declared.call.Call.TheVariants as call
use Rattle.zone_model.specs.declared.entry.Reply.TheVariants as reply
use Rattle.heap_tables.specs.declared.tables.Tables.{Tables}
use Rattle.heap_cycle.specs.Collects.{collector_of}
use Rattle.shared_heap.specs.Cycles.{IsNext, finalised}
use Rattle.shared_heap.specs.Shared.{Shared}
use Rattle.shared_heap.specs.Steps.{Stepped}
use Rattle.shared_heap.proofs.Finalising.{finalise_step}
use Rattle.shared_heap.proofs.Opened.{seen_with}
use Rattle.shared_heap.proofs.SettledHeap.{finalises, is_next, one_less, same_used}
use Rattle.shared_heap.proofs.heap.Heap.finalise_next.Goals as goal

pub overflow_sub-self : goal.overflow_sub-self
overflow_sub-self c =
    let h = c.self.inside in
    let one = one_less h.tables c.finalise_next-id.new.tables c.in-Some.cycle c.finalise_next-id.new.self c.finalise_next-id.result c.finalise_next-id.ensures.finalised in
    let all = c.self.invariant.unfinalised in
    omega (arith, one, all)

pub invariant_of-self : goal.invariant_of-self
invariant_of-self c =
    let h = c.self.inside in
    let i = c.self.invariant in
    let done = c.finalise_next-id.ensures.finalised in
    let one = one_less h.tables c.finalise_next-id.new.tables c.in-Some.cycle c.finalise_next-id.new.self c.finalise_next-id.result done in
    let used = same_used h.tables c.finalise_next-id.new.tables c.in-Some.cycle c.finalise_next-id.new.self c.finalise_next-id.result done in
    let all = i.unfinalised in
    let fits = i.fits in
    let some = i.some_wait in
    record {
      fits = omega (arith, used, fits);
      unfinalised = omega (arith, one, all);
      some_wait = omega (arith, used, some);
      collects = c.finalise_next-id.ensures.collects;
      counts = λ q. let same : unwrap_or (get c.finalise_next-id.new.tables.counts.counts q) 0 ≡ unwrap_or (get h.tables.counts.counts q) 0 = ap (λ (t : Tables). unwrap_or (get t.counts.counts q) 0) done.tables in let few = i.counts q in omega (arith, same, few);
    }

pub returns-clause-after : goal.returns-clause-after
returns-clause-after c =
    let h = c.self.inside in
    let id = c.finalise_next-id.result in
    let done = c.finalise_next-id.ensures.finalised in
    let new : Shared = seen_with h.options c.finalise_next-id.new.tables h.weak.shown h.weak.ready (collector_of c.finalise_next-id.new.tables (Some c.finalise_next-id.new.self)) in
    let now : c.args.self.now ≡ seen_with h.options h.tables h.weak.shown h.weak.ready (collector_of h.tables (Some c.in-Some.cycle)) = sym c.self.view_is ∙ ap (λ o. seen_with h.options h.tables h.weak.shown h.weak.ready (collector_of h.tables o)) c.in-Some.is in
    subst (λ k. IsNext k id × (new ≡ finalised k id)) (sym now)
    (is_next h.tables c.finalise_next-id.new.tables c.in-Some.cycle c.finalise_next-id.new.self id done h.options h.weak.shown h.weak.ready, finalises h.tables c.finalise_next-id.new.tables c.in-Some.cycle c.finalise_next-id.new.self id done h.options h.weak.shown h.weak.ready)

pub returns-clause-step : goal.returns-clause-step
returns-clause-step c =
    let after = returns-clause-after c in
    λ z serves. subst (λ k. Stepped k z c.args.t call.Finalise (reply.Finalised c.finalise_next-id.result)) (sym after.1)
    (finalise_step c.args.self.now z c.args.t c.finalise_next-id.result serves c.requires.settling after.0 (rw (← c.self.view_is) c.as_slice-roots.ensures.count))
