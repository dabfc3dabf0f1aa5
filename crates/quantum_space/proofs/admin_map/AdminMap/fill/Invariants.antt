use Rattle.quantum_space.specs.AdminMaps.{AllAre, IsChanged}
use Rattle.quantum_space.proofs.admin_map.AdminMap.fill.Given as goal

abbrev pub invariant-loop-at : goal.invariant-loop-at
invariant-loop-at l = record {
  inside : AllAre l.self.bytes l.from l.at l.byte;
  changed : IsChanged l.fn.self l.self l.from l.at;
}
