use Rattle.std.proofs.Common.{◌≡◌, ℕ, List, Option, Some, None, MatchOption, slice_get, sym, subst}
use Rattle.std.specs.Map.{keys_of}
use Rattle.az_base.specs.declared.block_id.BlockId.{BlockId}
use Rattle.quantum_space.specs.Shapes.{Has, Once}
use Rattle.block_table.specs.Places.{PlaceOf}
use Rattle.block_table.proofs.Positions.{one_place}
use Rattle.block_table.proofs.Told.{order_is}
use Rattle.block_table.proofs.table.BlockTable.position.Goals as goal

only : (xs : List BlockId) (id : BlockId) (o : Option ℕ) → Once xs → MatchOption o (¬ Has xs id) (λ n. slice_get xs n ≡ Some id) → PlaceOf xs id o
only xs id None once h = h
only xs id (Some n) once h = (h, λ k f. one_place xs n k id once h f)

pub returns : goal.returns
returns c = subst (λ (l : List BlockId). PlaceOf l c.args.id c.position.result) (sym (order_is _ c.self.inside.graph c.self.inside.kept.entries c.self.view_is))
    (only (keys_of c.self.inside.graph.rows) c.args.id c.position.result c.is_graph.ensures.once c.position.ensures)
