use Rattle.std.proofs.Common.{sym, ap, ◌∙◌}
use Rattle.std.specs.Option.{option_map_or}
use Rattle.block_table.specs.Holds.{Holds, times}
use Rattle.block_table.proofs.Told.{held_there, holds_none, no_spot}
use Rattle.block_table.proofs.table.BlockTable.times.Goals as goal

pub returns-in-Some : goal.returns-in-Some
returns-in-Some c = c.times.ensures ∙ sym (ap (λ o. option_map_or (λ (m : Holds). times m c.args.t) o 0) (held_there _ c.self.inside.graph c.self.inside.kept.entries c.self.view_is _ _ c.self.invariant c.args.id c.in-Some.kept.now c.in-Some.ensures.value))

pub returns-in-None : goal.returns-in-None
returns-in-None c = sym (ap (λ o. option_map_or (λ (m : Holds). times m c.args.t) o 0) (holds_none _ c.self.inside.graph c.self.inside.kept.entries c.self.view_is c.args.id (no_spot _ c.self.inside.graph c.self.inside.kept.entries c.self.view_is _ _ c.self.invariant c.args.id c.in-None.ensures.value)))
