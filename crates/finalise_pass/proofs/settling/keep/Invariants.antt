use Rattle.std.proofs.Common.{◌≡◌, ◌≤◌, ◌+◌, length, take, filter}
use Rattle.finalise_pass.specs.Kept.{is_dark}
use Rattle.finalise_pass.proofs.settling.keep.Given as goal

abbrev pub invariant-loop-n : goal.invariant-loop-n
invariant-loop-n g l = record {
  kept : l.kept.list ≡ filter (is_dark (g.G.Graph.shades l.graph)) (take l.n l.condemned.list);
  room : length l.condemned.list ≤ l.kept.spare + l.n;
}
