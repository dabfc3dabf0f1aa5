use Rattle.std.proofs.Common.{ap, ◌∙◌}
use Rattle.quantum_space.specs.Shapes.{Shades}
use Rattle.block_table.proofs.Marked.{marks_are}
use Rattle.block_table.proofs.table.BlockTable.shade.Goals as goal

pub returns : goal.returns
returns c = c.shade.ensures ∙ ap (λ (f : Shades). f c.args.id) (marks_are _ c.self.inside.graph c.self.inside.kept.entries c.self.view_is)
