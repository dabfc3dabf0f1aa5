use Rattle.zone_escape.proofs.Cores.{core_legal}
use Rattle.zone_escape.proofs.Room.{core_still}
use Rattle.zone_escape.proofs.cycles.take_steps.Goals as goal

pub invariant_of-core : goal.invariant_of-core
invariant_of-core c = let is = c.core-2.invariant in (is.0, core_still (record { heap = c.core-2.inside.heap; journal = c.core-2.inside.journal }) c.reserve.new.self c.reserve.ensures.entries c.reserve.ensures.owed is.0 is.1)

pub returns-in_err-reserve-clause-legal : goal.returns-in_err-reserve-clause-legal
returns-in_err-reserve-clause-legal c = core_legal _ (invariant_of-core c)

pub returns-in_err-reserve-clause-state : goal.returns-in_err-reserve-clause-state
returns-in_err-reserve-clause-state c = invariant_of-core c

pub invariant_of-core-2 : goal.invariant_of-core-2
invariant_of-core-2 c = let is = c.core-2.invariant in (is.0, core_still (record { heap = c.core-2.inside.heap; journal = c.core-2.inside.journal }) c.reserve.new.self c.reserve.ensures.entries c.reserve.ensures.owed is.0 is.1)

pub returns-clause-legal : goal.returns-clause-legal
returns-clause-legal c = core_legal _ (invariant_of-core-2 c)

pub returns-clause-state : goal.returns-clause-state
returns-clause-state c = invariant_of-core-2 c
