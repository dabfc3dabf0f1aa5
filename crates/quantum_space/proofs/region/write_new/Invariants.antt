use Rattle.std.proofs.Common.{◌≡◌, ◌+◌, length}
use Rattle.quantum_space.specs.Regions.{AreNew, SameWords}
use Rattle.quantum_space.proofs.region.write_new.Given as goal

abbrev pub invariant-loop-i : goal.invariant-loop-i
invariant-loop-i l = record {
  count : length l.words.items ≡ length l.fn.words.items;
  written : AreNew l.words.items l.from l.i l.layout;
  others : SameWords l.fn.words.items l.words.items l.from (l.from + l.i);
}
