use Rattle.std.proofs.Common.{◌≡◌, length}
use Rattle.quantum_space.specs.AdminMaps.{AllAre, SameOutside}
use Rattle.quantum_space.proofs.admin_map.zero.Given as goal

abbrev pub invariant-loop-at : goal.invariant-loop-at
invariant-loop-at l = record {
  count : length l.bytes.items ≡ length l.fn.bytes.items;
  inside : AllAre l.bytes.items l.from l.at 0;
  outside : SameOutside l.fn.bytes.items l.bytes.items l.from l.at;
}
