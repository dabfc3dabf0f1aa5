use Rattle.std.proofs.Common.{◌≡◌, ◌∙◌, Some, ap, subst, sym}
use Rattle.heap_cycle.specs.Collects.{Collects, collector_of, condemned_at}
use Rattle.shared_heap.specs.Stands.{Stands}
use Rattle.shared_heap.proofs.Opened.{seen_with}
use Rattle.shared_heap.proofs.SettledHeap.{left_stands}
use Rattle.shared_heap.proofs.heap.Heap.to_finalise.Goals as goal

pub returns-in-Settling-clause-stands : goal.returns-in-Settling-clause-stands
returns-in-Settling-clause-stands c =
    let h = c.self.inside in
    let now : c.args.self.now ≡ seen_with h.options h.tables h.weak.shown h.weak.ready (collector_of h.tables (Some c.in-Some.cycle)) = sym c.self.view_is ∙ ap (λ o. seen_with h.options h.tables h.weak.shown h.weak.ready (collector_of h.tables o)) c.in-Some.is in
    λ z s. left_stands h.options h.tables h.weak.shown (record { counts = h.tables.counts.spare; object = h.tables.assocs.ready; value = h.weak.ready }) c.in-Some.cycle c.in-Settling.pass.condemned c.are_tables.ensures.blocks
    (subst (λ o. Collects h.tables o) c.in-Some.is c.self.invariant.collects) (ap condemned_at c.in-Settling.is) z (subst (λ k. Stands k z) now s)
