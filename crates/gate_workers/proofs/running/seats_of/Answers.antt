use Rattle.std.proofs.Common.{◌++◌, map, Ok, ap, ◌∙◌, append-nil}
use Rattle.gate_workers.proofs.Workers.{none_left}
use Rattle.gate_workers.proofs.running.seats_of.Goals as goal

pub returns : goal.returns
returns c =
    let rest = c.loop-result.result-iterator.rest in
    let none = none_left rest.items rest.len rest.ok.0 c.in-None.ensures.steps.0 in
    c.loop-result.invariant ∙ ap (λ xs. map Ok c.loop-result.seats.items ++ xs) none ∙ append-nil (map Ok c.loop-result.seats.items)
