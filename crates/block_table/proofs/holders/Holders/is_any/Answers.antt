use Rattle.std.proofs.Common.{◌∙◌, ap, not}
use Rattle.block_table.specs.Holds.{is_held_by}
use Rattle.block_table.proofs.Counts.{held_listed}
use Rattle.block_table.proofs.holders.Holders.is_any.Goals as goal

pub returns : goal.returns
returns c = ap not c.is_empty.ensures ∙ held_listed c.self.inside.counts.items c.self.invariant.1 ∙ ap is_held_by c.self.view_is
