use Rattle.std.proofs.Common.{◌≡◌, vec_len}
use Rattle.zone_gate.proofs.bells.Bells.hang.Given as goal

abbrev pub invariant-loop-n : goal.invariant-loop-n
invariant-loop-n l = vec_len l.bells ≡ l._n
