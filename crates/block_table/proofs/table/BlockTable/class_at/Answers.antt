use Rattle.std.proofs.Common.{sym, ap, ◌∙◌, option_and_then}
use Rattle.block_layouts.specs.Layouts.{class_at}
use Rattle.block_space.specs.Spaces.{Space'}
use Rattle.block_table.specs.Lying.{layout_at}
use Rattle.block_table.specs.Stored.{HeapBlock}
use Rattle.block_table.proofs.Told.{block_none, block_there, layout_same}
use Rattle.block_table.proofs.table.BlockTable.class_at.Goals as goal

pub returns-in-Some : goal.returns-in-Some
returns-in-Some c =
    let g = c.self.inside.graph in
    let x = c.in-Some.spot in
    c.class_at.ensures ∙ ap (λ (s : Space'). class_at (layout_at s x) c.args.at) c.space.ensures ∙ ap (λ l. class_at l c.args.at) (sym (layout_same g.space x))
    ∙ sym (ap (option_and_then (λ (k : HeapBlock). class_at k.layout c.args.at)) (block_there _ g c.self.inside.kept.entries c.self.view_is c.args.id x c.in-Some.ensures.value))

pub returns-in-None : goal.returns-in-None
returns-in-None c = sym (ap (option_and_then (λ (k : HeapBlock). class_at k.layout c.args.at)) (block_none _ c.self.inside.graph c.self.inside.kept.entries c.self.view_is c.args.id c.in-None.ensures.value))
