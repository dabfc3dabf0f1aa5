use Rattle.std.proofs.Common.{◌++◌, map, Ok, ap, ◌∙◌, append-nil}
use Rattle.run_zone.proofs.Each.{nothing}
use Rattle.run_zone.proofs.running.ended_of.Goals as goal

pub returns : goal.returns
returns c =
    let rest = c.loop-result.result-iterator.rest in
    let none = nothing rest.items rest.len rest.ok.0 c.in-None.ensures.steps.0 in
    c.loop-result.invariant ∙ ap (λ xs. map Ok c.loop-result.all.items ++ xs) none ∙ append-nil (map Ok c.loop-result.all.items)
