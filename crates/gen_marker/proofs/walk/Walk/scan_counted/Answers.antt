use Rattle.std.proofs.Common.{sym, arith, subst}
use Rattle.quantum_space.specs.Shapes.{Shape}
use Rattle.gen_marker.specs.Marking.{NoGrey}
use Rattle.gen_marker.proofs.Ends.{all_done}
use Rattle.gen_marker.proofs.walk.Walk.scan_counted.Goals as goal

pub returns-clause-no_grey : goal.returns-clause-no_grey
returns-clause-no_grey g c =
    let e = c.slice.ensures in
    subst (λ (x : Shape). NoGrey x.blocks (g.G.Graph.shades c.slice.new.graph)) (sym e.only.shape) (all_done _ _ _ _ _ _ _ e.ends e.ticks (omega (arith, c.block_count-count.ensures.count)))
