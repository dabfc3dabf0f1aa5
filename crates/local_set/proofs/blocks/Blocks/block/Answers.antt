use Rattle.std.proofs.Common.{ap, Some, sym, ◌∙◌, option_map}
use Rattle.zone_model.specs.State.{Block}
use Rattle.local_set.proofs.Tables.{missing, there_is}
use Rattle.local_set.proofs.blocks.Blocks.block.Goals as goal

pub unreachable-requires : goal.unreachable-requires
unreachable-requires c = missing c.self.inside.stored.entries c.args.id c.in_default.ensures.value (rw (← c.self.view_is) at c.requires)

pub returns-clause-layout : goal.returns-clause-layout
returns-clause-layout c = rw (← c.self.view_is) (ap (option_map (λ (b : Block). b.layout)) (there_is c.self.inside.stored.entries c.args.id c.in-Some.block.now c.in-Some.ensures.value) ∙ sym (ap Some c.layout.ensures))

pub returns-clause-words : goal.returns-clause-words
returns-clause-words c = rw (← c.self.view_is) (ap (option_map (λ (b : Block). b.words)) (there_is c.self.inside.stored.entries c.args.id c.in-Some.block.now c.in-Some.ensures.value) ∙ sym (ap Some c.words.ensures.words))
