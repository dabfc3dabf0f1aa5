use Rattle.std.proofs.Common.{◌≡◌}
use Rattle.local_set.specs.LocalSets.{blocks_of}
use Rattle.local_set.proofs.Walks.{Visited}
use Rattle.escape_plan.specs.Searching.{each_of}
use Rattle.escape_plan.proofs.search.Search.begin.Given as goal

abbrev pub invariant-loop-id : goal.invariant-loop-id
invariant-loop-id l = record {
  rest : l.self ≡ record l.fn.self { found = l.self.found };
  visited : Visited (blocks_of l.local.blocks) l.fn.self.found.keys l.self.found.keys (each_of l.first) l.id-index;
}
