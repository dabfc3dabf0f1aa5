use Rattle.std.proofs.Common.{◌≡◌, ◌↔◌, IsTrue, Some, slice_get, nat_lt, subst, true, false}
use Rattle.std.proofs.lemmas.Bool.{lt-ltb, ltb-true}
use Rattle.std.specs.Map.{keys_of}
use Rattle.quantum_space.specs.Shapes.{Has}
use Rattle.space_graph.specs.Graphs.{Graph', begun}
use Rattle.space_graph.proofs.Positions.{first_all, first_below, first_has}
use Rattle.space_graph.proofs.graph.view.SpaceGraphGraph.has_block.Goals as goal

pub returns-in-Some : goal.returns-in-Some
returns-in-Some c =
    let ks = keys_of c.self.inside.rows.list in
    let at : slice_get ks c.in-Some.n ≡ Some c.args.id = c.in-Some.ensures in
    subst (λ (g : Graph'). IsTrue (nat_lt c.in-Some.n c.self.inside.began) ↔ Has (begun g) c.args.id) c.self.view_is
    ((λ t. first_has ks c.self.inside.began c.in-Some.n c.args.id at (ltb-true c.in-Some.n c.self.inside.began t)), (λ h. lt-ltb c.in-Some.n c.self.inside.began (first_below ks c.self.inside.began c.in-Some.n c.args.id c.self.invariant.0.once at h)))

pub returns-in-None : goal.returns-in-None
returns-in-None c =
    let ks = keys_of c.self.inside.rows.list in
    let none : ¬ Has ks c.args.id = c.in-None.ensures in
    subst (λ (g : Graph'). IsTrue false ↔ Has (begun g) c.args.id) c.self.view_is
    ((λ t. (let f : false ≡ true = t in cc)), (λ h. absurd (none (first_all ks c.self.inside.began c.args.id h))))
