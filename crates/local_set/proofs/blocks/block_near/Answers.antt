use Rattle.std.proofs.Common.{◌≡◌, ap, sym, ◌∙◌, rules}
use Rattle.std.specs.Map.{lookup}
use Rattle.az_base.specs.Ids.{id_eq}
use Rattle.local_set.proofs.Tables.{missing, there_is}
use Rattle.local_set.proofs.blocks.block_near.Goals as goal

pub returns-then-eq : goal.returns-then-eq
returns-then-eq c =
    let same : c.in-Some.key.now ≡ c.args.id = search rules in
    there_is c.args.stored.now.entries c.args.id c.in-Some.block.now (sym c.in-Some.ensures.value ∙ ap (λ i. lookup (id_eq i) c.args.stored.now.entries) same)

pub unreachable-requires : goal.unreachable-requires
unreachable-requires c = missing c.args.stored.now.entries c.args.id c.in_default-get.ensures.value c.requires

pub returns : goal.returns
returns c = there_is c.args.stored.now.entries c.args.id c.in-Some-get.block.now c.in-Some-get.ensures.value
