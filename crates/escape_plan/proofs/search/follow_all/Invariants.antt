use Rattle.std.proofs.Common.{◌≡◌, ◌-◌, length}
use Rattle.local_set.specs.LocalSets.{blocks_of}
use Rattle.local_set.proofs.Walks.{Walked, Done}
use Rattle.escape_plan.specs.Searching.{each_of, Counts}
use Rattle.escape_plan.proofs.search.follow_all.Given as goal

abbrev pub invariant-loop-id : goal.invariant-loop-id
invariant-loop-id l = record {
  counts : Counts (blocks_of l.local.blocks) l.search;
  walked : Walked (blocks_of l.local.blocks) (each_of l.first) l.search.found.keys;
  done : Done (blocks_of l.local.blocks) l.search.found.keys (length l.search.followed.items);
  room : l.search.room ≡ l.room;
}

abbrev pub decreases-loop-id : goal.decreases-loop-id
decreases-loop-id l = length l.local.blocks - length l.search.followed.items
