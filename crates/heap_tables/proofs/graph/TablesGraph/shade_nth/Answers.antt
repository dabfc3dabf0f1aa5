use Rattle.std.proofs.Common.{◌≡◌, Option, Some, None, MatchOption, slice_get, ap}
use Rattle.az_base.specs.declared.block_id.BlockId.{BlockId}
use Rattle.quantum_space.specs.Shapes.{WithShade}
use Rattle.block_table.specs.Marking.{marks_in}
use Rattle.block_table.specs.Table.{Table}
use Rattle.heap_tables.specs.Graphs.{graph_of}
use Rattle.heap_tables.specs.declared.tables.Tables.{Tables}
use Rattle.heap_tables.proofs.graph.TablesGraph.shade_nth.Goals as goal

pub returns-clause-nth : goal.returns-clause-nth
returns-clause-nth c = go (slice_get (graph_of t).blocks c.args.n) c.shade_nth.ensures.nth
  where
    t : Tables
    t = c.args.self.now

    go : (o : Option BlockId) → MatchOption o (c.shade_nth.new.self ≡ t.blocks) (λ id. WithShade (marks_in t.blocks) id c.args.s (marks_in c.shade_nth.new.self))
        → MatchOption o ((let y : Tables = record t { blocks = c.shade_nth.new.self } in y) ≡ t) (λ id. WithShade (marks_in t.blocks) id c.args.s (marks_in c.shade_nth.new.self))
    go None e = ap (λ (b : Table). let y : Tables = record t { blocks = b } in y) e
    go (Some id) h = h
