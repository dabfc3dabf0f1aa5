use Rattle.std.proofs.Common.{◌≡◌, ◌∙◌, ◌-◌, sym, ap, arith, slice_get}
use Rattle.finalise_pass.specs.Finalisers.{awaits}
use Rattle.finalise_pass.specs.Passing.{Passing}
use Rattle.finalise_pass.proofs.Searching.{find_rest}
use Rattle.finalise_pass.proofs.pass.Pass.next.Goals as goal

pub returns-in_err-end-clause-least : goal.returns-in_err-end-clause-least
returns-in_err-end-clause-least g c = λ passed. (let p : Passing = c.args.self.now in c.from_residual.ensures ∙ sym c.in_err-end.ensures ∙ find_rest (awaits (g.F.Finals.finals c.args.finals.now)) p.condemned p.passed passed)

pub returns-clause-least : goal.returns-clause-least
returns-clause-least g c = λ passed.
    let p : Passing = c.args.self.now in
    let e = c.in_ok-end.ensures in
    let place : (c.in_ok-end.end - 1) ≡ e.past.place = omega (arith, e.past.count) in
    c.get.ensures ∙ ap (λ (q : Passing). slice_get q.condemned (c.in_ok-end.end - 1)) c.self.view_is ∙ ap (slice_get p.condemned) place ∙ e.past.is ∙ sym e.found ∙ find_rest (awaits (g.F.Finals.finals c.args.finals.now)) p.condemned p.passed passed
