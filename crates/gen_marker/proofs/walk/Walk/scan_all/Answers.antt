use Rattle.std.proofs.Common.{◌∙◌, sym, subst}
use Rattle.az_base.specs.declared.action.Mode.{Mode}
use Rattle.gen_marker.specs.Marking.{Shut, Scans}
use Rattle.quantum_space.specs.Shapes.{Shape}
use Rattle.gen_marker.proofs.Marks.{spreads_on}
use Rattle.gen_marker.proofs.walk.Walk.scan_all.Goals as goal

pub loop-preserved : goal.loop-preserved
loop-preserved g c =
    let i = c.loop.invariant in
    let e = c.scan_next.ensures in
    let s : Shape = g.G.Graph.shape c.args.graph.now in
    let scan : Scans c.args.self.now.mode s (g.G.Graph.shades c.loop.graph) (g.G.Graph.shades c.scan_next.new.graph) =
    subst (λ m. Scans m s (g.G.Graph.shades c.loop.graph) (g.G.Graph.shades c.scan_next.new.graph)) i.mode
    (subst (λ x. Scans c.loop.self.mode x (g.G.Graph.shades c.loop.graph) (g.G.Graph.shades c.scan_next.new.graph)) i.only.shape (e.one c.loop-test.true)) in
    record {
      tracks = e.tracks;
      mode = e.mode ∙ i.mode;
      room = e.room ∙ i.room;
      shut = subst (λ (m : Mode). Shut m (g.G.Graph.shape c.scan_next.new.graph) (g.G.Graph.shades c.scan_next.new.graph)) (sym (e.mode ∙ i.mode)) (subst (λ (x : Shape). Shut c.args.self.now.mode x (g.G.Graph.shades c.scan_next.new.graph)) (sym (e.only.shape ∙ i.only.shape)) scan.shut);
      spreads = spreads_on _ _ _ _ _ i.spreads scan.spreads;
      only = record { shape = e.only.shape ∙ i.only.shape; rest = e.only.rest ∙ i.only.rest };
    }
