use Rattle.std.proofs.Common.{slice_get, sym, ap, ◌∙◌}
use Rattle.std.specs.Option.{option_map}
use Rattle.az_base.specs.declared.block_id.BlockId.{BlockId}
use Rattle.quantum_space.specs.declared.spot.Spot.{Spot}
use Rattle.space_graph.specs.Graphs.{Graph'}
use Rattle.space_graph.proofs.Positions.{key_at}
use Rattle.space_graph.proofs.graph.SpaceGraph.nth.Goals as goal

pub returns-in-Some : goal.returns-in-Some
returns-in-Some c =
    let g = c.args.self.now in
    ap (option_map (λ (e : BlockId × Spot). e.0)) (c.in-Some.ensures ∙ ap (λ (y : Graph'). slice_get y.rows c.args.n) c.self.view_is) ∙ sym (key_at g.rows c.args.n)

pub returns-in-None : goal.returns-in-None
returns-in-None c =
    let g = c.args.self.now in
    ap (option_map (λ (e : BlockId × Spot). e.0)) (c.in-None.ensures ∙ ap (λ (y : Graph'). slice_get y.rows c.args.n) c.self.view_is) ∙ sym (key_at g.rows c.args.n)
