use Rattle.zone_escape.proofs.Phases.{may_still}
use Rattle.zone_escape.proofs.laws.what_a_thread_may_do_stays_with_the_cycle.Goals as goal

pub returns : goal.returns
returns c = may_still
