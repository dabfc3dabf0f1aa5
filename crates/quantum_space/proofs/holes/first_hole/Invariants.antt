use Rattle.std.proofs.Common.{◌≡◌, ◌<◌, ◌≤◌, ◌+◌, ℕ, get_or}
use Rattle.quantum_space.specs.Holes.{IsHole}
use Rattle.quantum_space.proofs.holes.first_hole.Given as goal

abbrev pub invariant-loop-at : goal.invariant-loop-at
invariant-loop-at l = record {
  after : l.from ≤ l.begin;
  ordered : l.begin ≤ l.at;
  short : l.at < l.begin + l.len;
  free : (q : ℕ) → l.begin ≤ q → q < l.at → get_or l.bytes q 0 ≡ 0;
  before : (p : ℕ) → l.from ≤ p → p < l.begin → ¬ IsHole l.bytes p l.len;
}
