use Rattle.std.proofs.Common.{◌≡◌, None, find, take, drop}
use Rattle.finalise_pass.specs.Finalisers.{awaits}
use Rattle.finalise_pass.proofs.pass.Pass.end_of_next.Given as goal

abbrev pub invariant-loop-place : goal.invariant-loop-place
invariant-loop-place g l = record {
  further : find (awaits (g.F.Finals.finals l.finals)) (drop l.self.passed l.self.condemned) ≡ find (awaits (g.F.Finals.finals l.finals)) (drop l.place l.self.condemned);
  before : find (awaits (g.F.Finals.finals l.finals)) (take l.self.passed l.self.condemned) ≡ None → find (awaits (g.F.Finals.finals l.finals)) (take l.place l.self.condemned) ≡ None;
}
