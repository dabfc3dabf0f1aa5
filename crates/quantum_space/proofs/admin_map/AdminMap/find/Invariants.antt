use Rattle.std.proofs.Common.{◌≡◌, ◌<◌, ℕ}
use Rattle.quantum_space.specs.AdminMaps.{HasNoHole}
use Rattle.quantum_space.proofs.admin_map.AdminMap.find.Given as goal

abbrev pub invariant-loop-subzone : goal.invariant-loop-subzone
invariant-loop-subzone l = record {
  same : l.self ≡ l.fn.self;
  none : (s : ℕ) → s < l.subzone → HasNoHole l.fn.self l.len s;
}
