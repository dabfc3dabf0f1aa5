use Rattle.std.proofs.Common.{Bool, ap, ◌∙◌}
use Rattle.az_base.specs.declared.block_id.BlockId.{BlockId}
use Rattle.block_table.proofs.Marked.{young_are}
use Rattle.block_table.proofs.table.BlockTable.is_young.Goals as goal

pub returns : goal.returns
returns c = c.is_young.ensures ∙ ap (λ (f : BlockId → Bool). f c.args.id) (young_are _ c.self.inside.graph c.self.inside.kept.entries c.self.view_is)
