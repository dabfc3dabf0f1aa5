use Rattle.space_graph.proofs.Comings.{room_fewer}
use Rattle.space_graph.proofs.Leaving.{graph_out, may_go, taken_out}
use Rattle.space_graph.proofs.graph.SpaceGraph.remove.Goals as goal

pub free_row-requires : goal.free_row-requires
free_row-requires c = λ x e. may_go _ _ c.self.view_is c.self.invariant.0 c.is_whole.ensures c.args.id c.requires.forgotten x e

pub invariant_of-self : goal.invariant_of-self
invariant_of-self c = (
  graph_out _ c.self.invariant.0 c.args.id c.free_row.new.rows.list c.free_row.new.space c.len.result c.len.ensures.once c.free_row.ensures.fewer c.free_row.ensures.rows c.len.ensures.len c.free_row.ensures.gone,
  room_fewer _ _ _ _ _ _ c.free_row.ensures.fewer c.free_row.ensures.gone.spare c.free_row.ensures.room c.self.invariant.1,
)

pub returns : goal.returns
returns c = taken_out _ _ c.self.view_is c.args.id c.free_row.new.rows.list c.free_row.new.space c.len.result c.free_row.ensures.fewer c.free_row.ensures.rows c.len.ensures.len c.free_row.ensures.gone
