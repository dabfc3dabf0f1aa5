use Rattle.std.proofs.Common.{◌≡◌, ◌≢◌, ◌∙◌, subst, below_more, arith, slice_get, Some, MatchOption}
use Rattle.az_base.specs.declared.block_id.BlockId.{BlockId}
use Rattle.quantum_space.specs.declared.shade.Shade.TheVariants as shade
use Rattle.quantum_space.specs.Shapes.{Shape, Has}
use Rattle.gen_marker.specs.Marking.{Enlivens}
use Rattle.quantum_space.proofs.Lists.{place_of}
use Rattle.gen_marker.proofs.Begins.{Further, further}
use Rattle.gen_marker.proofs.walk.Walk.grey_remembered.Goals as goal

pub loop-n-preserved : goal.loop-n-preserved
loop-n-preserved g c =
    let i = c.loop-n.invariant in
    let e = c.grey_nth.ensures in
    let s : Shape = g.G.Graph.shape c.args.graph.now in
    let step : Further s c.loop-n.n (g.G.Graph.shades c.args.graph.now) (g.G.Graph.shades c.loop-n.graph) (g.G.Graph.shades c.grey_nth.new.graph) =
    further g.G.Graph.shades s c.loop-n.n (g.G.Graph.shades c.args.graph.now) c.loop-n.graph c.grey_nth.new.graph
    (subst (λ (x : Shape). MatchOption (slice_get x.remembered c.loop-n.n) (c.grey_nth.new.graph ≡ c.loop-n.graph) (λ id. Enlivens x.blocks id (g.G.Graph.shades c.loop-n.graph) (g.G.Graph.shades c.grey_nth.new.graph))) i.only.shape e.nth) in
    record {
      tracks = e.tracks;
      mode = e.mode ∙ i.mode;
      only = record { shape = e.only.shape ∙ i.only.shape; rest = e.only.rest ∙ i.only.rest };
      same = step.same i.same;
      done = λ k b lt is has. below_more (λ j. (b : BlockId) → slice_get s.remembered j ≡ Some b → Has s.blocks b → g.G.Graph.shades c.grey_nth.new.graph b ≢ shade.White) c.loop-n.n
          (λ j l b h bl. step.kept b (i.done j b l h bl)) (λ b h bl. step.here b h bl) k lt b is has;
    }

pub returns-clause-greys : goal.returns-clause-greys
returns-clause-greys g c = record {
  done = λ b l. (let p = place_of (g.G.Graph.shape c.args.graph.now).remembered b l.here in
      c.loop-n.invariant.done p.k b (omega (arith, p.below, c.remembered_count-count.ensures, c.loop-n-test.false)) p.is l.block);
  same = c.loop-n.invariant.same;
}
