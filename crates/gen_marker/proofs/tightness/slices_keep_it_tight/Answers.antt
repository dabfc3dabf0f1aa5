use Rattle.gen_marker.proofs.Tight.{tight_darker}
use Rattle.gen_marker.proofs.tightness.slices_keep_it_tight.Goals as goal

pub returns : goal.returns
returns c = tight_darker
