use Rattle.std.proofs.Common.{◌≡◌, ◌∙◌, subst, ap, below_more, arith, slice_get, Some, MatchOption, List}
use Rattle.az_base.specs.declared.block_id.BlockId.{BlockId}
use Rattle.quantum_space.specs.Shapes.{WithShade}
use Rattle.quantum_space.proofs.Lists.{place_of}
use Rattle.quantum_space.proofs.Shading.{Shaded, shaded}
use Rattle.space_graph.specs.Graphs.{begun, shades_of}
use Rattle.space_graph.proofs.graph.SpaceGraph.shade_each.Goals as goal

pub loop-n-preserved : goal.loop-n-preserved
loop-n-preserved c =
    let i = c.loop-n.invariant in
    let g = c.args.self.now in
    let same : begun c.loop-n.self ≡ begun g = ap begun i.rest in
    let step : Shaded c.args.s (begun g) c.loop-n.n (shades_of c.loop-n.self) (shades_of c.shade_nth.new.self) =
    shaded shades_of c.args.s (begun g) c.loop-n.n c.loop-n.self c.shade_nth.new.self
    (subst (λ (bs : List BlockId). MatchOption (slice_get bs c.loop-n.n) (c.shade_nth.new.self ≡ c.loop-n.self) (λ id. WithShade (shades_of c.loop-n.self) id c.args.s (shades_of c.shade_nth.new.self))) same c.shade_nth.ensures.nth) in
    record {
      each = λ k b lt is. below_more (λ j. (b : BlockId) → slice_get (begun g) j ≡ Some b → shades_of c.shade_nth.new.self b ≡ c.args.s) c.loop-n.n
          (λ j l b h. step.kept b (i.each j b l h)) (λ b h. step.here b h) k lt b is;
      outside = λ b h. step.outside b h ∙ i.outside b h;
      rest = c.shade_nth.ensures.rest ∙ i.rest;
    }

pub returns-clause-each : goal.returns-clause-each
returns-clause-each c = λ b h.
    let p = place_of (begun c.args.self.now) b h in
    c.loop-n.invariant.each p.k b (omega (arith, p.below, c.block_count-count.ensures.count, c.loop-n-test.false)) p.is
