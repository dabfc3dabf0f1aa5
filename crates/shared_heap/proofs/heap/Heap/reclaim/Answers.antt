use Rattle.std.proofs.Common.{◌≡◌, ◌∙◌, Some, None, ap, subst, sym, arith, not, unwrap_or}
use Rattle.std.specs.FinMap.{get, retain_keys}
use Rattle.zone_model.specs.State.{is_word_of}
use Rattle.retain_table.specs.Counted.{Counted}
use Rattle.heap_cycle.specs.Collects.{Collects, collector_of}
use Rattle.shared_heap.specs.Cycles.{IsSettling, Reclaimed}
use Rattle.shared_heap.specs.Holding.{Serves}
use Rattle.shared_heap.specs.Shared.{finalisers_left}
use Rattle.shared_heap.proofs.CycleSteps.{reclaim_step}
use Rattle.shared_heap.proofs.Opened.{seen_with}
use Rattle.shared_heap.proofs.Remaining.{few_wait, reclaimed_used}
use Rattle.shared_heap.proofs.SettledHeap.{may_reclaim, none_left, reclaims, same_waiting}
use Rattle.shared_heap.proofs.heap.Heap.reclaim.Goals as goal

pub invariant_of-self : goal.invariant_of-self
invariant_of-self c =
    let h = c.self.inside in
    let i = c.self.invariant in
    let new = c.reclaim-reclaimed.new.tables in
    let is = c.reclaim-reclaimed.ensures.reclaimed in
    let keeps : Collects h.tables (Some c.in-Some.cycle) = subst (λ o. Collects h.tables o) (sym c.in-Some.ensures.value) i.collects in
    let now : c.args.self.now ≡ seen_with h.options h.tables h.weak.shown h.weak.ready (collector_of h.tables (Some c.in-Some.cycle)) = sym c.self.view_is ∙ ap (λ o. seen_with h.options h.tables h.weak.shown h.weak.ready (collector_of h.tables o)) (sym c.in-Some.ensures.value) in
    let none = none_left h.tables new c.in-Some.cycle c.reclaim-reclaimed.result.kept.list c.reclaim-reclaimed.result.reclaimed.list is h.options h.weak.shown (record { counts = h.tables.counts.spare; object = h.tables.assocs.ready; value = h.weak.ready }) keeps (sym (ap finalisers_left now) ∙ c.requires.finalised) in
    let used = reclaimed_used h.tables.blocks.blocks new.blocks.blocks c.reclaim-reclaimed.result.reclaimed.list is.blocks in
    let waiting = same_waiting h.tables new c.in-Some.cycle c.reclaim-reclaimed.result.kept.list c.reclaim-reclaimed.result.reclaimed.list is none in
    let few = few_wait new.blocks.blocks in
    let fits = i.fits in
    let all = i.unfinalised in
    record {
      fits = omega (arith, used, fits);
      unfinalised = waiting ∙ all;
      some_wait = omega (arith, few, waiting, all);
      collects = subst (λ o. Collects new o) (sym c.take.ensures.after) c.reclaim-reclaimed.ensures.collects;
      counts = λ q. let same : unwrap_or (get new.counts.counts q) 0 ≡ unwrap_or (get h.tables.counts.counts q) 0 = ap (λ (t : Counted). unwrap_or (get t.counts q) 0) is.counts in let most = i.counts q in omega (arith, same, most);
    }

pub returns-clause-after : goal.returns-clause-after
returns-clause-after c =
    let h = c.self.inside in
    let new = c.reclaim-reclaimed.new.tables in
    let gone = c.reclaim-reclaimed.result.reclaimed.list in
    let now : c.args.self.now ≡ seen_with h.options h.tables h.weak.shown h.weak.ready (collector_of h.tables (Some c.in-Some.cycle)) = sym c.self.view_is ∙ ap (λ o. seen_with h.options h.tables h.weak.shown h.weak.ready (collector_of h.tables o)) (sym c.in-Some.ensures.value) in
    let weak : c.forget_words.new.weak.shown ≡ retain_keys h.weak.shown (λ l. not (is_word_of gone l)) = c.forget_words.ensures ∙ ap (λ xs. retain_keys h.weak.shown (λ l. not (is_word_of xs l))) c.as_slice.ensures in
    subst (λ o. Reclaimed c.args.self.now gone (seen_with h.options new c.forget_words.new.weak.shown c.forget_words.new.weak.ready (collector_of new o))) (sym c.take.ensures.after)
    (subst (λ k. Reclaimed k gone (seen_with h.options new c.forget_words.new.weak.shown c.forget_words.new.weak.ready (collector_of new None))) (sym now)
    (reclaims h.tables new c.in-Some.cycle c.reclaim-reclaimed.result.kept.list gone c.reclaim-reclaimed.ensures.reclaimed h.options h.weak.shown c.forget_words.new.weak.shown (record { counts = h.tables.counts.spare; object = h.tables.assocs.ready; value = h.weak.ready })
    (record { counts = new.counts.spare; object = new.assocs.ready; value = c.forget_words.new.weak.ready }) weak))

pub returns-clause-step : goal.returns-clause-step
returns-clause-step c =
    let h = c.self.inside in
    let keeps : Collects h.tables (Some c.in-Some.cycle) = subst (λ o. Collects h.tables o) (sym c.in-Some.ensures.value) c.self.invariant.collects in
    let now : c.args.self.now ≡ seen_with h.options h.tables h.weak.shown h.weak.ready (collector_of h.tables (Some c.in-Some.cycle)) = sym c.self.view_is ∙ ap (λ o. seen_with h.options h.tables h.weak.shown h.weak.ready (collector_of h.tables o)) (sym c.in-Some.ensures.value) in
    λ z serves. reclaim_step c.args.self.now _ z c.args.t c.reclaim-reclaimed.result.reclaimed c.reclaim-reclaimed.result.kept serves (returns-clause-after c)
    (may_reclaim h.tables c.reclaim-reclaimed.new.tables c.in-Some.cycle c.reclaim-reclaimed.result.kept.list c.reclaim-reclaimed.result.reclaimed.list c.reclaim-reclaimed.ensures.reclaimed h.options h.weak.shown (record { counts = h.tables.counts.spare; object = h.tables.assocs.ready; value = h.weak.ready }) z c.args.t keeps c.are_tables.ensures
    (subst (λ k. IsSettling k c.args.t) now c.requires.settling) (sym (ap finalisers_left now) ∙ c.requires.finalised) (subst (λ k. Serves k z c.args.t) now serves))
