use Rattle.std.proofs.Common.{◌≡◌, ◌<◌, ◌≤◌, fold, length, take}
use Rattle.finalise_pass.specs.Finalisers.{with_action}
use Rattle.finalise_pass.proofs.running.run_all.Given as goal

abbrev pub invariant-loop-n : goal.invariant-loop-n
invariant-loop-n g l = record {
  applied : g.F.Finals.finals l.finals ≡ fold (with_action l.id) (g.F.Finals.finals l.fn.finals) (take l.n ((g.F.Finals.finals l.fn.finals).actions l.id));
  few : 0 < l.n → length ((g.F.Finals.finals l.fn.finals).actions l.id) ≤ 8;
  rest : g.F.Finals.rest l.finals ≡ g.F.Finals.rest l.fn.finals;
}
