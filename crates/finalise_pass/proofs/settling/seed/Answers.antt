use Rattle.std.proofs.Common.{subst}
use Rattle.az_base.specs.declared.action.Mode.{Mode}
use Rattle.az_base.specs.declared.action.Mode.TheVariants as mode
use Rattle.quantum_space.specs.Shapes.{Shape, Shades, anchors}
use Rattle.gen_marker.specs.Marking.{Among, Greys}
use Rattle.finalise_pass.proofs.Outcomes.{seeds}
use Rattle.finalise_pass.proofs.settling.seed.Goals as goal

pub returns-clause-seeded : goal.returns-clause-seeded
returns-clause-seeded g c = λ r within apart.
    let s : Shape = g.G.Graph.shape c.args.graph.now in
    let mid : Shades = g.G.Graph.shades c.sow_remembered.new.graph in
    let new : Shades = g.G.Graph.shades c.grey_anchors.new.graph in
    let greys : Greys (Among mode.Full s (anchors s)) mid new =
    subst (λ (m : Mode). Greys (Among m s (anchors s)) mid new) c.sow_remembered.ensures.mode
    (subst (λ (x : Shape). Greys (Among c.sow_remembered.new.walk.mode x (anchors x)) mid new) c.sow_remembered.ensures.only.shape c.grey_anchors.ensures.greys) in
    seeds s r mid new within (c.sow_remembered.ensures.sown r within apart) greys
