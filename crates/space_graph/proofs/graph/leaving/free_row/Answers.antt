use Rattle.std.proofs.Common.{sym}
use Rattle.space_graph.proofs.graph.leaving.free_row.Goals as goal

pub free_spot-requires-clause-block : goal.free_spot-requires-clause-block
free_spot-requires-clause-block c = (c.requires c.in-Some.spot (sym c.in-Some.ensures.value)).0

pub free_spot-requires-clause-unknown : goal.free_spot-requires-clause-unknown
free_spot-requires-clause-unknown c = (c.requires c.in-Some.spot (sym c.in-Some.ensures.value)).1
