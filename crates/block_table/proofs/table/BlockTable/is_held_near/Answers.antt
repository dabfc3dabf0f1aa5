use Rattle.std.proofs.Common.{◌≡◌, false, sym, ap, ◌∙◌, rules}
use Rattle.std.specs.Map.{lookup}
use Rattle.std.specs.Option.{option_map_or}
use Rattle.az_base.specs.Ids.{id_eq}
use Rattle.block_table.specs.Holds.{is_held_by}
use Rattle.block_table.proofs.Told.{held_there}
use Rattle.block_table.proofs.table.BlockTable.is_held_near.Goals as goal

pub returns-then-eq : goal.returns-then-eq
returns-then-eq c =
    let same : c.in-Some.key.now ≡ c.args.id = search rules in
    let at = sym c.in-Some.ensures.value ∙ ap (λ i. lookup (id_eq i) c.self.inside.kept.entries) same in
    c.is_held-then-eq.ensures ∙ sym (ap (λ o. option_map_or is_held_by o false) (held_there _ c.self.inside.graph c.self.inside.kept.entries c.self.view_is _ _ c.self.invariant c.args.id c.in-Some.kept.now at))
