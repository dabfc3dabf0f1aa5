use Rattle.std.proofs.Common.{slice_get, sym, ap, ◌∙◌}
use Rattle.block_table.proofs.Told.{order_is}
use Rattle.block_table.proofs.table.BlockTable.nth.Goals as goal

pub returns : goal.returns
returns c = c.nth.ensures ∙ ap (λ l. slice_get l c.args.n) (sym (order_is _ c.self.inside.graph c.self.inside.kept.entries c.self.view_is))
