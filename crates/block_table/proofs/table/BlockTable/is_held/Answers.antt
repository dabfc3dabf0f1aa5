use Rattle.std.proofs.Common.{false, sym, ap, ◌∙◌}
use Rattle.std.specs.Option.{option_map_or}
use Rattle.block_table.specs.Holds.{is_held_by}
use Rattle.block_table.proofs.Told.{held_there, holds_none, no_spot}
use Rattle.block_table.proofs.table.BlockTable.is_held.Goals as goal

pub returns-in-Some : goal.returns-in-Some
returns-in-Some c = c.is_held.ensures ∙ sym (ap (λ o. option_map_or is_held_by o false) (held_there _ c.self.inside.graph c.self.inside.kept.entries c.self.view_is _ _ c.self.invariant c.args.id c.in-Some.kept.now c.in-Some.ensures.value))

pub returns-in-None : goal.returns-in-None
returns-in-None c = sym (ap (λ o. option_map_or is_held_by o false) (holds_none _ c.self.inside.graph c.self.inside.kept.entries c.self.view_is c.args.id (no_spot _ c.self.inside.graph c.self.inside.kept.entries c.self.view_is _ _ c.self.invariant c.args.id c.in-None.ensures.value)))
