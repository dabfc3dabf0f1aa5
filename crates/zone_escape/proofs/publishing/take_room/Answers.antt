use Rattle.zone_escape.specs.Cores.{CoreShown}
use Rattle.zone_escape.proofs.Cores.{core_legal}
use Rattle.zone_escape.proofs.Room.{core_still, nothing_flushed, nothing_touched, on_ok, on_err}
use Rattle.zone_escape.proofs.publishing.take_room.Goals as goal

abbrev seen : goal.After-reserve → CoreShown
seen c = record { heap = c.core.inside.heap; journal = c.core.inside.journal }

pub invariant_of-core : goal.invariant_of-core
invariant_of-core c = let is = c.core.invariant in (is.0, core_still (record { heap = c.core.inside.heap; journal = c.core.inside.journal }) c.reserve.new.self c.reserve.ensures.entries c.reserve.ensures.owed is.0 is.1)

pub returns-clause-ok : goal.returns-clause-ok
returns-clause-ok c =
    on_ok c.reserve.result (rw (← c.core.view_is) (nothing_flushed c.args.local.now (seen c) c.reserve.new.self c.reserve.ensures.entries c.reserve.ensures.owed c.requires.out (rw (← c.core.view_is) at c.requires.belongs)))

pub returns-clause-err : goal.returns-clause-err
returns-clause-err c =
    on_err c.reserve.result (rw (← c.core.view_is) (nothing_touched c.args.local.now (seen c) c.reserve.new.self c.reserve.ensures.entries c.reserve.ensures.owed))

pub returns-clause-legal : goal.returns-clause-legal
returns-clause-legal c = core_legal _ (invariant_of-core c)

pub returns-clause-state : goal.returns-clause-state
returns-clause-state c = invariant_of-core c
