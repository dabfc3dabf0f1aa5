use Rattle.std.proofs.Common.{◌≡◌, drop}
use Rattle.block_table.specs.Places.{somes}
use Rattle.heap_tables.proofs.cursors.next_some.Given as goal

abbrev pub invariant-loop-n : goal.invariant-loop-n
invariant-loop-n l = somes (drop l.place l.places) ≡ somes (drop l.n l.places)
