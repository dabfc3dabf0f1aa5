use Rattle.std.proofs.Common.{◌≡◌, Some, IsTrue, take}
use Rattle.az_base.specs.declared.block_id.BlockId.{BlockId}
use Rattle.az_base.specs.Ids.{among}
use Rattle.quantum_space.specs.declared.spot.Spot.{Spot}
use Rattle.block_space.specs.Marking.{len_in}
use Rattle.space_graph.specs.Graphs.{KnowsLess, KnowsNothing, spot_for}
use Rattle.space_graph.proofs.graph.SpaceGraph.forget_all.Given as goal

abbrev pub invariant-loop-n : goal.invariant-loop-n
invariant-loop-n l = record {
  less : KnowsLess l.fn.self l.self;
  none : (a : BlockId) (x : Spot) → IsTrue (among (take l.n l.ids) a) → spot_for l.fn.self.rows a ≡ Some x → KnowsNothing l.self.space x (len_in l.fn.self.space x);
}
