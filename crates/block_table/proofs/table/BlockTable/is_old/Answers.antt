use Rattle.std.proofs.Common.{Bool, not, ◌&&◌, ap, ◌∙◌}
use Rattle.std.specs.FinMap.{contains_key}
use Rattle.az_base.specs.declared.block_id.BlockId.{BlockId}
use Rattle.space_graph.specs.Graphs.{shape_of}
use Rattle.block_table.proofs.Marked.{young_are}
use Rattle.block_table.proofs.Told.{there_is}
use Rattle.block_table.proofs.table.BlockTable.is_old.Goals as goal

pub returns : goal.returns
returns c =
    let g = c.self.inside.graph in
    let id = c.args.id in
    c.is_old.ensures ∙ ap (λ b. b && not ((shape_of g).young id)) (there_is _ g c.self.inside.kept.entries c.self.view_is id)
    ∙ ap (λ (f : BlockId → Bool). contains_key c.args.self.now.blocks id && not (f id)) (young_are _ g c.self.inside.kept.entries c.self.view_is)
