use Rattle.std.proofs.Common.{refl, subst}
use Rattle.heap_cycle.specs.Collects.{KeepsPhase}
use Rattle.heap_cycle.proofs.Finalised.{finalised_collects, is_finalised, next_some}
use Rattle.heap_cycle.proofs.open_cycle.OpenCycle.finalise_next.Goals as goal

pub run_next-id-requires : goal.run_next-id-requires
run_next-id-requires c =
    let before = c.args.self.now in
    next_some c.args.tables.now before c.in-Settling.pass (subst (KeepsPhase c.args.tables.now before) c.in-Settling.is (c.requires.collects.open_cycle before refl)) c.requires.waiting

pub returns-clause-finalised : goal.returns-clause-finalised
returns-clause-finalised c =
    let ran = c.run_next-id.ensures in
    is_finalised c.args.tables.now c.run_next-id.new.tables c.in-Settling.pass c.run_next-id.new.pass c.run_next-id.result ran.next ran.applied ran.rest ran.condemned ran.passed ran.roots c.args.self.now c.in-Settling.is c.requires.collects

pub returns-clause-collects : goal.returns-clause-collects
returns-clause-collects c =
    let ran = c.run_next-id.ensures in
    finalised_collects c.args.tables.now c.run_next-id.new.tables c.in-Settling.pass c.run_next-id.new.pass c.run_next-id.result ran.next ran.applied ran.rest ran.condemned ran.passed ran.roots c.args.self.now c.in-Settling.is c.requires.collects
