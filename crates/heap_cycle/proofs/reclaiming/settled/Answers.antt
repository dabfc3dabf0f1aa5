use Rattle.std.proofs.Common.{refl, subst}
use Rattle.heap_cycle.specs.Collects.{KeepsPhase}
use Rattle.heap_cycle.proofs.Settled.{watched}
use Rattle.heap_cycle.proofs.reclaiming.settled.Goals as goal

pub settle-requires : goal.settle-requires
settle-requires c =
    let t = c.args.tables.now in
    watched t c.args.cycle c.in-Settling.pass (subst (KeepsPhase t c.args.cycle) c.in-Settling.is (c.requires.collects.open_cycle c.args.cycle refl))
