use Rattle.std.proofs.Common.{◌≡◌, IsTrue, length, take}
use Rattle.az_base.specs.declared.block_id.BlockId.{BlockId}
use Rattle.az_base.specs.Ids.{among}
use Rattle.indexmap.specs.IndexMap.{spare}
use Rattle.space_graph.specs.Graphs.{IsForgotten}
use Rattle.block_table.specs.Lying.{AreLying, HasLess, lying_table}
use Rattle.block_table.proofs.table.take_out_all.Given as goal

abbrev pub invariant-loop-n : goal.invariant-loop-n
invariant-loop-n l = record {
  forgotten : (b : BlockId) → IsTrue (among l.ids b) → IsForgotten l.graph b;
  all : l.graph.began ≡ length l.graph.rows;
  lying : AreLying l.graph l.kept.entries l.used (spare l.kept);
  less : HasLess (lying_table l.fn.graph l.fn.kept.entries) (take l.n l.ids) (lying_table l.graph l.kept.entries);
}
