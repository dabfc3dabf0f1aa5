use Rattle.zone_model.proofs.ReachedChanges.{adds_nothing, adds_stored}
use Rattle.zone_model.proofs.laws.reached.changes_that_add_edges_to_anchored_blocks.Goals as goal

pub returns-clause-same : goal.returns-clause-same
returns-clause-same c = adds_nothing

pub returns-clause-store : goal.returns-clause-store
returns-clause-store c = adds_stored
