use Rattle.gen_marker.proofs.Tight.{tight_shut}
use Rattle.gen_marker.proofs.tightness.tight_graphs_are_shut.Goals as goal

pub returns : goal.returns
returns c = tight_shut
