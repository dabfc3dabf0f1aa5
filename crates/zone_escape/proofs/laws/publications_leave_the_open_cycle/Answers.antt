use Rattle.zone_escape.proofs.Phases.{flushed_stays, stepped_stays, untouched_stays}
use Rattle.zone_escape.proofs.laws.publications_leave_the_open_cycle.Goals as goal

pub returns-clause-flushed : goal.returns-clause-flushed
returns-clause-flushed c = flushed_stays

pub returns-clause-stepped : goal.returns-clause-stepped
returns-clause-stepped c = λ l m k n c r is belongs. stepped_stays l m k n is belongs c r

pub returns-clause-untouched : goal.returns-clause-untouched
returns-clause-untouched c = untouched_stays
