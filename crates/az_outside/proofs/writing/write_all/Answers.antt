use Rattle.std.proofs.Common.{arith, subst, sym, append-nil}
use Rattle.az_outside.proofs.Taking.{take_more_of}
use Rattle.az_outside.proofs.Turning.{one_turn, last_turn, all_turns}
use Rattle.az_outside.specs.declared.writing.Fault.{Fault}
use Rattle.az_outside.proofs.writing.write_all.Goals as goal

pub turns-preserved : goal.turns-preserved
turns-preserved g c =
    let got = c.in-Ok.ensures in (
      omega arith,
      subst (g.O.Sink.grew _ _) (sym (take_more_of c.args.bytes.now c.turns.done c.in-Ok.count)) (g.met.O.Sink.grew_twice _ _ _ _ _ c.turns.invariant.1 got.bytes),
      omega (arith, got.cause.later),
      one_turn g.O.Sink.wrote c.args.bytes.now c.turns.done c.in-Ok.count c.args.sink.now c.turns.sink c.write.new.self c.turns.invariant.3 got.wrote,
    )

pub returns-in-Err-clause-front : goal.returns-in-Err-clause-front
returns-in-Err-clause-front g c =
    let both = g.met.O.Sink.grew_twice _ _ _ _ _ c.turns.invariant.1 c.in-Err.ensures.bytes in
    record { count = c.turns.done; short = omega arith; front = subst (g.O.Sink.grew _ _) (append-nil _) both }

pub returns-in-Err-clause-turns : goal.returns-in-Err-clause-turns
returns-in-Err-clause-turns g c =
    last_turn g.O.Sink.wrote {E = Fault} (record {}) c.args.bytes.now c.turns.done c.args.sink.now c.turns.sink c.write.new.self (record {}) c.turns.invariant.3 c.in-Err.ensures.wrote

pub returns-clause-turns : goal.returns-clause-turns
returns-clause-turns g c = all_turns g.O.Sink.wrote c.args.bytes.now c.turns.done c.args.sink.now c.turns.sink (omega arith) c.turns.invariant.3
