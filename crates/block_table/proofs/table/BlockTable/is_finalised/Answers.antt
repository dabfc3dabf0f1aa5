use Rattle.std.proofs.Common.{false, sym, ap, ◌∙◌}
use Rattle.std.specs.Option.{option_map_or}
use Rattle.block_table.specs.Stored.{HeapBlock}
use Rattle.block_table.proofs.Told.{block_none, kept_there, no_spot}
use Rattle.block_table.proofs.table.BlockTable.is_finalised.Goals as goal

pub returns-in-Some : goal.returns-in-Some
returns-in-Some c =
    let b = kept_there _ c.self.inside.graph c.self.inside.kept.entries c.self.view_is _ _ c.self.invariant c.args.id c.in-Some.kept.now c.in-Some.ensures.value in
    c.is_finalised.ensures ∙ sym (ap (λ o. option_map_or (λ (k : HeapBlock). k.finalised) o false) b.1)

pub returns-in-None : goal.returns-in-None
returns-in-None c =
    let n = no_spot _ c.self.inside.graph c.self.inside.kept.entries c.self.view_is _ _ c.self.invariant c.args.id c.in-None.ensures.value in
    sym (ap (λ o. option_map_or (λ (k : HeapBlock). k.finalised) o false) (block_none _ c.self.inside.graph c.self.inside.kept.entries c.self.view_is c.args.id n))
