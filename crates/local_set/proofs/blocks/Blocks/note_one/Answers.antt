use Rattle.std.proofs.lemmas.Result.{on_ok_weaker}
use Rattle.local_set.proofs.Tables.{missing, there_is}
use Rattle.local_set.proofs.Referents.{one_noted}
use Rattle.local_set.proofs.blocks.Blocks.note_one.Goals as goal

pub unreachable-requires : goal.unreachable-requires
unreachable-requires c = missing c.self.inside.stored.entries c.args.id c.in_default.ensures.value (rw (← c.self.view_is) at c.requires)

pub returns-clause-ok : goal.returns-clause-ok
returns-clause-ok c = rw (← c.self.view_is) (on_ok_weaker c.note_words.result (λ noted. one_noted _ _ c.args.id c.in-Some.block.now c.words.result.now (there_is c.self.inside.stored.entries c.args.id c.in-Some.block.now c.in-Some.ensures.value) c.words.ensures.words noted) c.note_words.ensures.ok)
