use Rattle.std.proofs.Common.{◌≡◌, ◌+◌, ◌∙◌, sym, refl, subst, arith}
use Rattle.az_base.specs.declared.action.Mode.{Mode}
use Rattle.gen_marker.specs.Marking.{Shut, Scans, blacks}
use Rattle.gen_marker.specs.Progress.{SomeGrey}
use Rattle.quantum_space.specs.Shapes.{Shape}
use Rattle.gen_marker.proofs.Marks.{spreads_on}
use Rattle.gen_marker.proofs.Slices.{some_grey}
use Rattle.gen_marker.proofs.walk.Walk.slice.Goals as goal

pub returns-then-not-scan_next-clause-ticks : goal.returns-then-not-scan_next-clause-ticks
returns-then-not-scan_next-clause-ticks g c =
    subst (λ h. c.loop-n.steps + blacks (g.G.Graph.shape c.args.graph.now).blocks (g.G.Graph.shades c.args.graph.now) ≡ c.args.steps.now + blacks (g.G.Graph.shape c.args.graph.now).blocks (g.G.Graph.shades h))
    (sym (c.if-not-scan_next.ensures.none refl).0) c.loop-n.invariant.ticks

pub loop-n-preserved : goal.loop-n-preserved
loop-n-preserved g c =
    let i = c.loop-n.invariant in
    let e = c.scan_next.ensures in
    let s : Shape = g.G.Graph.shape c.args.graph.now in
    let scan : Scans c.args.self.now.mode s (g.G.Graph.shades c.loop-n.graph) (g.G.Graph.shades c.scan_next.new.graph) =
    subst (λ m. Scans m s (g.G.Graph.shades c.loop-n.graph) (g.G.Graph.shades c.scan_next.new.graph)) i.mode
    (subst (λ x. Scans c.loop-n.self.mode x (g.G.Graph.shades c.loop-n.graph) (g.G.Graph.shades c.scan_next.new.graph)) i.only.shape (c.if-not-scan_next.ensures.one refl)) in
    record {
      tracks = e.tracks;
      mode = e.mode ∙ i.mode;
      shut = subst (λ (m : Mode). Shut m (g.G.Graph.shape c.scan_next.new.graph) (g.G.Graph.shades c.scan_next.new.graph)) (sym e.mode) (subst (λ (x : Shape). Shut c.loop-n.self.mode x (g.G.Graph.shades c.scan_next.new.graph)) (sym e.only.shape) (c.if-not-scan_next.ensures.one refl).shut);
      spreads = spreads_on _ _ _ _ _ i.spreads scan.spreads;
      ticks = omega (arith, i.ticks, scan.black, c.tick.ensures);
      so_far = omega (arith, i.so_far, c.tick.ensures);
      only = record { shape = e.only.shape ∙ i.only.shape; rest = e.only.rest ∙ i.only.rest };
    }

pub returns-else-is_done-clause-ends : goal.returns-else-is_done-clause-ends
returns-else-is_done-clause-ends g c =
    let i = c.loop-n.invariant in
    (subst (λ x. SomeGrey x.blocks (g.G.Graph.shades c.loop-n.graph)) i.only.shape (some_grey _ _ _ i.tracks (λ e. let t = c.is_done.ensures.1 e in let f = c.if-is_done.false in cc)), omega (arith, i.so_far, c.loop-n-test.false, c.loop-n.auto.n-end))
