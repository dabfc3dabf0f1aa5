use Rattle.std.proofs.Common.{◌≡◌, Option, Some, None, IfSome, sym, subst, ap, ◌∙◌}
use Rattle.quantum_space.specs.declared.spot.Spot.{Spot}
use Rattle.az_base.specs.declared.block_id.BlockId.{BlockId}
use Rattle.block_space.specs.Marking.{HasBlockIn, id_in}
use Rattle.space_graph.specs.Graphs.{Graph', IsGraph, spot_for}
use Rattle.space_graph.proofs.graph.SpaceGraph.find.Goals as goal

found : (g : Graph') (id : BlockId) (o : Option Spot) → IsGraph g → o ≡ spot_for g.rows id → IfSome o (λ x. HasBlockIn g.space x × (id_in g.space x ≡ id))
found g id None inv e = tt
found g id (Some x) inv e = inv.there id x (sym e)

pub returns-clause-there : goal.returns-clause-there
returns-clause-there c = go c.find.result (found c.args.self.now c.args.id c.find.result (subst IsGraph c.self.view_is c.self.invariant.0) (c.find.ensures ∙ ap (λ (y : Graph'). spot_for y.rows c.args.id) c.self.view_is))
  where
    go : (o : Option Spot) → IfSome o (λ x. HasBlockIn c.args.self.now.space x × (id_in c.args.self.now.space x ≡ c.args.id)) → IfSome o (λ x. HasBlockIn c.args.self.now.space x)
    go None h = tt
    go (Some x) h = h.0

pub returns-clause-its : goal.returns-clause-its
returns-clause-its c = go c.find.result (found c.args.self.now c.args.id c.find.result (subst IsGraph c.self.view_is c.self.invariant.0) (c.find.ensures ∙ ap (λ (y : Graph'). spot_for y.rows c.args.id) c.self.view_is))
  where
    go : (o : Option Spot) → IfSome o (λ x. HasBlockIn c.args.self.now.space x × (id_in c.args.self.now.space x ≡ c.args.id)) → IfSome o (λ x. id_in c.args.self.now.space x ≡ c.args.id)
    go None h = tt
    go (Some x) h = h.1
