use Rattle.std.proofs.Common.{map}
use Rattle.assoc_refs.specs.Table.{pairs_of}
use Rattle.block_table.specs.Places.{in_word}
use Rattle.block_table.specs.Table.{words_in}
use Rattle.heap_tables.specs.Graphs.{value_of}
use Rattle.block_table.proofs.Somes.{first_of_two}
use Rattle.heap_tables.proofs.tables.Tables.next_edge.Goals as goal

pub returns-in-Some : goal.returns-in-Some
returns-in-Some c =
    let t = c.args.self.now in
    (first_of_two (map in_word (words_in t.blocks.blocks c.args.id)) (map value_of (pairs_of t.assocs.pairs c.args.id)) c.args.place c.in-Some.found c.in-Some.ensures.next)
