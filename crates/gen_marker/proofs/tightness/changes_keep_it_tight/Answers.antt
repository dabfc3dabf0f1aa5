use Rattle.gen_marker.proofs.Tight.{tight_changed}
use Rattle.gen_marker.proofs.tightness.changes_keep_it_tight.Goals as goal

pub returns : goal.returns
returns c = tight_changed
