use Rattle.std.proofs.Common.{ℕ, ◌≡◌, List, Option, Some, None, MatchOption, position, slice_get, is_some, sym, subst}
use Rattle.std.specs.Map.{keys_of}
use Rattle.az_base.specs.declared.block_id.BlockId.{BlockId}
use Rattle.az_base.specs.Ids.{id_eq}
use Rattle.quantum_space.specs.declared.spot.Spot.{Spot}
use Rattle.quantum_space.specs.Shapes.{Has}
use Rattle.space_graph.specs.Graphs.{Rows', spot_for}
use Rattle.space_graph.proofs.Positions.{has_row, key_found}
use Rattle.space_graph.proofs.rows.Rows.position.Goals as goal

found : (es : List (BlockId × Spot)) (id : BlockId) (o : Option ℕ) → o ≡ position (id_eq id) (keys_of es) → is_some o ≡ is_some (spot_for es id) → MatchOption o (¬ Has (keys_of es) id) (λ n. slice_get (keys_of es) n ≡ Some id)
found es id None e f = λ h. (let t = has_row es id h in cc)
found es id (Some n) e f = key_found es id n (sym e)

pub returns : goal.returns
returns c = subst (λ (r : Rows'). MatchOption c.get_index_of.result (¬ Has (keys_of r.list) c.args.id) (λ n. slice_get (keys_of r.list) n ≡ Some c.args.id)) c.self.view_is
    (found c.self.inside.map.entries c.args.id c.get_index_of.result c.get_index_of.ensures.index c.get_index_of.ensures.found)
