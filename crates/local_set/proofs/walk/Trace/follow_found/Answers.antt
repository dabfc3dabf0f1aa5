use Rattle.std.proofs.Common.{sym, ◌∙◌}
use Rattle.std.proofs.lemmas.Result.{on_ok_weaker}
use Rattle.local_set.specs.LocalSets.{blocks_of}
use Rattle.local_set.proofs.Walks.{visits_there}
use Rattle.local_set.proofs.walk.Trace.follow_found.Goals as goal

pub words-requires : goal.words-requires
words-requires c = c.requires.there c.in-Some.id (sym c.get_index.ensures.key ∙ sym c.in-Some.ensures)

pub returns : goal.returns
returns c = on_ok_weaker c.follow.result (λ visits q asked. visits_there (blocks_of c.args.blocks.now.list) c.args.self.now.found.keys _ c.args.at c.in-Some.id q c.words.result.now (sym c.get_index.ensures.key ∙ sym c.in-Some.ensures) c.words.ensures.words asked visits) c.follow.ensures
