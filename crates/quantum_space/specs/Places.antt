-- The order of places
use Rattle.std.specs.declared.cmp.Ordering.{Ordering}
use Rattle.std.specs.Ordering.{nat_cmp, ordering_then}
use Rattle.quantum_space.specs.declared.place.Place.{Place}

-- by subzone, and then by quantum
abbrev pub place_cmp : Place → Place → Ordering
place_cmp a b = ordering_then (nat_cmp a.subzone b.subzone) (nat_cmp a.quantum b.quantum)
