use Rattle.std.proofs.Common.{arith}
use Rattle.std.proofs.lemmas.List.{length-take}
use Rattle.az_outside.proofs.Taking.{had_more, takes_few, takes_more}
use Rattle.az_outside.proofs.reading.read_all.Goals as goal

pub returns-then-count-room-clause-stopped : goal.returns-then-count-room-clause-stopped
returns-then-count-room-clause-stopped g c =
    let got = c.in-Ok.ensures in
    let asked = length-take c.min-most.result c.turns.buf in
    λ _. takes_more _ _ _ _ _ _ c.turns.invariant.1 got.bytes.0 (omega (arith, got.bound.1, asked))

pub returns-then-count-room-clause-too_long : goal.returns-then-count-room-clause-too_long
returns-then-count-room-clause-too_long g c = λ is. had_more _ _ _ (returns-then-count-room-clause-stopped g c is)

pub returns-then-count-room-clause-taken : goal.returns-then-count-room-clause-taken
returns-then-count-room-clause-taken g c =
    let got = c.in-Ok.ensures in
    let asked = length-take c.min-most.result c.turns.buf in
    takes_few _ _ _ _ _ _ c.turns.invariant.1 got.bytes.0 (omega (arith, got.bound.1, asked))

pub returns-in_err-extend_from_slice-in-Ok-clause-taken : goal.returns-in_err-extend_from_slice-in-Ok-clause-taken
returns-in_err-extend_from_slice-in-Ok-clause-taken g c =
    let got = c.in-Ok.ensures in
    takes_few _ _ _ _ _ _ c.turns.invariant.1 got.bytes.0 (omega (arith, got.bound.1))

pub returns-in_err-extend_from_slice-in-Ok-clause-memory : goal.returns-in_err-extend_from_slice-in-Ok-clause-memory
returns-in_err-extend_from_slice-in-Ok-clause-memory g c =
    let got = c.in-Ok.ensures in
    λ _. takes_few _ _ _ _ _ _ c.turns.invariant.1 got.bytes.0 (omega (arith, got.bound.1))
