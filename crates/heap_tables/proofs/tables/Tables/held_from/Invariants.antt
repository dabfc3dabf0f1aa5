use Rattle.std.proofs.Common.{◌≡◌, drop, map}
use Rattle.block_table.specs.Places.{somes}
use Rattle.heap_tables.specs.Graphs.{if_held_in}
use Rattle.heap_tables.proofs.tables.Tables.held_from.Given as goal

abbrev pub invariant-loop-n : goal.invariant-loop-n
invariant-loop-n l =
    let places = map (if_held_in l.self.blocks.holds) l.self.blocks.order in
    somes (drop l.position places) ≡ somes (drop l.n places)
