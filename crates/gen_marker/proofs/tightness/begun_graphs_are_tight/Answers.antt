use Rattle.gen_marker.proofs.Tight.{tight_begun}
use Rattle.gen_marker.proofs.tightness.begun_graphs_are_tight.Goals as goal

pub returns : goal.returns
returns c = tight_begun
