use Rattle.std.proofs.Common.{false, slice_get, sym, ap, ◌∙◌}
use Rattle.std.specs.Option.{option_map_or}
use Rattle.block_table.specs.Table.{is_held_in}
use Rattle.block_table.proofs.Told.{order_is}
use Rattle.block_table.proofs.table.BlockTable.nth_is_held.Goals as goal

pub returns-in-Some : goal.returns-in-Some
returns-in-Some c = c.is_held_near.ensures ∙ ap (λ o. option_map_or (is_held_in c.args.self.now.holds) o false) (c.in-Some.ensures ∙ ap (λ l. slice_get l c.args.n) (sym (order_is _ c.self.inside.graph c.self.inside.kept.entries c.self.view_is)))

pub returns-in-None : goal.returns-in-None
returns-in-None c = ap (λ o. option_map_or (is_held_in c.args.self.now.holds) o false) (c.in-None.ensures ∙ ap (λ l. slice_get l c.args.n) (sym (order_is _ c.self.inside.graph c.self.inside.kept.entries c.self.view_is)))
