-- what the words so far refer to was enlivened
use Rattle.std.proofs.Common.{◌≡◌, [], take}
use Rattle.heap_tables.specs.Unshaded.{unshaded}
use Rattle.heap_cycle.specs.Collects.{Collects, collector_of}
use Rattle.heap_cycle.specs.Livening.{Livens, blocks_in}
use Rattle.heap_cycle.proofs.barriers.enliven_words.Given as goal

abbrev pub invariant-loop-word : goal.invariant-loop-word
invariant-loop-word l = record {
  collects : Collects l.tables l.cycle;
  same : unshaded l.tables ≡ unshaded l.fn.tables;
  livens : Livens (collector_of l.fn.tables l.fn.cycle) (collector_of l.tables l.cycle) (blocks_in (take l.word-index l.words)) [];
}
