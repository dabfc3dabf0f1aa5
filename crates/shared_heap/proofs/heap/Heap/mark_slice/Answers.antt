use Rattle.std.proofs.Common.{◌≡◌, ◌+◌, ◌∙◌, Some, ap, subst, sym}
use Rattle.gen_marker.specs.Marking.{blacks}
use Rattle.gen_marker.specs.Progress.{Ends}
use Rattle.heap_tables.specs.Graphs.{shades_of}
use Rattle.heap_cycle.specs.Collector.{Collector, shade_in}
use Rattle.heap_cycle.specs.Collects.{collector_of, start_of}
use Rattle.heap_cycle.proofs.Slicing.{ends_shown}
use Rattle.shared_heap.specs.Cycles.{Darkens, marked_by}
use Rattle.shared_heap.specs.Holding.{Serves}
use Rattle.shared_heap.specs.Shared.{Shared}
use Rattle.shared_heap.proofs.Opened.{seen_with}
use Rattle.shared_heap.proofs.Sliced.{darkens, fresh_of, sliced_stands, sliced_ticks}
use Rattle.shared_heap.proofs.heap.Heap.mark_slice.Goals as goal

pub returns-clause-cycle : goal.returns-clause-cycle
returns-clause-cycle g c =
    let now : c.args.self.now.gc ≡ collector_of c.self.inside.tables (Some c.in-Some.cycle) = ap (λ (h : Shared). h.gc) (sym c.self.view_is) ∙ ap (collector_of c.self.inside.tables) c.in-Some.is in
    let fresh = fresh_of c.self.inside.tables c.in-Some.cycle c.args.self.now c.args.t now c.requires.marking in
    subst (λ o. Darkens o (collector_of c.slice.new.tables (Some c.slice.new.self))) (sym now) (darkens c.self.inside.tables c.slice.new.tables c.in-Some.cycle c.slice.new.self fresh c.slice.ensures.sliced)

pub returns-clause-ticks : goal.returns-clause-ticks
returns-clause-ticks g c =
    let now : c.args.self.now.gc ≡ collector_of c.self.inside.tables (Some c.in-Some.cycle) = ap (λ (h : Shared). h.gc) (sym c.self.view_is) ∙ ap (collector_of c.self.inside.tables) c.in-Some.is in
    let fresh = fresh_of c.self.inside.tables c.in-Some.cycle c.args.self.now c.args.t now c.requires.marking in
    ap (λ (o : Collector). c.slice.new.steps + marked_by (λ g. blacks g.start (shade_in g)) o.cycle) now
    ∙ sliced_ticks c.self.inside.tables c.slice.new.tables c.in-Some.cycle c.slice.new.self fresh c.slice.ensures.sliced c.slice.new.steps c.args.steps.now c.slice.ensures.ticks

pub returns-clause-ends : goal.returns-clause-ends
returns-clause-ends g c =
    ends_shown c.slice.result c.slice.new.tables c.slice.new.self (c.slice.new.steps ≡ c.args.steps.now + c.args.budget) c.slice.ensures.sliced.fresh
    (subst (λ l. Ends c.slice.result l (shades_of c.slice.new.tables) (c.slice.new.steps ≡ c.args.steps.now + c.args.budget)) (sym (ap start_of c.slice.ensures.sliced.tables)) c.slice.ensures.ends)

pub returns-clause-stands : goal.returns-clause-stands
returns-clause-stands g c =
    let h = c.self.inside in
    let now : c.args.self.now ≡ seen_with h.options h.tables h.weak.shown h.weak.ready (collector_of h.tables (Some c.in-Some.cycle)) = sym c.self.view_is ∙ ap (λ o. seen_with h.options h.tables h.weak.shown h.weak.ready (collector_of h.tables o)) c.in-Some.is in
    let fresh = fresh_of h.tables c.in-Some.cycle c.args.self.now c.args.t (ap (λ (k : Shared). k.gc) now) c.requires.marking in
    λ z serves. sliced_stands h.tables c.slice.new.tables c.in-Some.cycle c.slice.new.self fresh c.slice.ensures.sliced h.options h.weak.shown h.weak.ready z c.args.t c.are_tables.ensures (subst (λ k. Serves k z c.args.t) now serves)
