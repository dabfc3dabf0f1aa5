use Rattle.std.proofs.Common.{Bool, filter, slice_get, ap, ◌∙◌, ◌&&◌, refl}
use Rattle.std.specs.Option.{option_to_list}
use Rattle.az_base.specs.declared.block_id.BlockId.{BlockId}
use Rattle.quantum_space.specs.Shapes.{is_unmarked}
use Rattle.block_table.specs.Marking.{graph_in}
use Rattle.block_table.proofs.Visits.{taken_alike}
use Rattle.heap_tables.specs.Graphs.{graph_of, shades_of}
use Rattle.heap_tables.proofs.graph.TablesGraph.left.Goals as goal

pub returns : goal.returns
returns c =
    let t = c.args.self.now in
    c.left.ensures ∙ ap (λ (p : BlockId → Bool). filter p (option_to_list (slice_get (graph_of t).blocks c.args.n))) (λ i b. is_unmarked (shades_of t b) && taken_alike c.args.mode (graph_in t.blocks) (graph_of t) b refl i)
