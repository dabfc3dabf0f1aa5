use Rattle.finalise_pass.proofs.Keeping.{tells_among}
use Rattle.finalise_pass.proofs.settling.is_inside.Goals as goal

pub returns : goal.returns
returns g c = tells_among (g.G.Graph.shape c.args.graph.now).blocks c.args.id c.has_block.result c.has_block.ensures
