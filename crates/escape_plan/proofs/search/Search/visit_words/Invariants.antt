use Rattle.std.proofs.Common.{◌≡◌}
use Rattle.local_set.specs.LocalSets.{blocks_of}
use Rattle.local_set.specs.Walks.{referents_of}
use Rattle.local_set.proofs.Walks.{Visited}
use Rattle.escape_plan.proofs.search.Search.visit_words.Given as goal

abbrev pub invariant-loop-word : goal.invariant-loop-word
invariant-loop-word l = record {
  rest : l.self ≡ record l.fn.self { found = l.self.found };
  visited : Visited (blocks_of l.local.blocks) l.fn.self.found.keys l.self.found.keys (referents_of l.words) l.word-index;
}
