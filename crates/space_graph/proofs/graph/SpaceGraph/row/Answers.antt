use Rattle.std.proofs.Common.{◌≡◌, ◌<◌, ◌≤◌, ℕ, Option, Some, None, IfSome, slice_get, sym, ap, ◌∙◌, subst, arith}
use Rattle.std.specs.Option.{option_map}
use Rattle.std.specs.Map.{keys_of}
use Rattle.az_base.specs.declared.block_id.BlockId.{BlockId}
use Rattle.quantum_space.specs.declared.spot.Spot.{Spot}
use Rattle.quantum_space.specs.Shapes.{Has}
use Rattle.block_space.specs.Marking.{HasBlockIn, id_in}
use Rattle.space_graph.specs.Graphs.{Graph', IsGraph, begun}
use Rattle.space_graph.proofs.Positions.{first_at, first_has, first_past, key_at, row_found}
use Rattle.space_graph.proofs.graph.SpaceGraph.row.Goals as goal

abbrev AreRows : Graph' → ℕ → Option (BlockId × Spot) → Type 0
AreRows g n o = IfSome o (λ r. HasBlockIn g.space r.1 × (id_in g.space r.1 ≡ r.0) × Has (begun g) r.0)

rows : (g : Graph') (n : ℕ) (o : Option (BlockId × Spot)) → IsGraph g → n < g.began → o ≡ slice_get g.rows n → AreRows g n o
rows g n None inv l e = tt
rows g n (Some r) inv l e =
    let at = inv.there r.0 r.1 (row_found g.rows n r.0 r.1 inv.once (sym e)) in
    (at.0, at.1, first_has (keys_of g.rows) g.began n r.0 (key_at g.rows n ∙ ap (option_map (λ (e : BlockId × Spot). e.0)) (sym e)) l)

here : (g : Graph') (n : ℕ) (o : Option (BlockId × Spot)) → n < g.began → o ≡ slice_get g.rows n → option_map (λ (e : BlockId × Spot). e.0) o ≡ slice_get (begun g) n
here g n o l e = ap (option_map (λ (e : BlockId × Spot). e.0)) e ∙ sym (key_at g.rows n) ∙ sym (first_at (keys_of g.rows) g.began n l)

first : (g : Graph') (n : ℕ) (o : Option (BlockId × Spot)) → AreRows g n o → IfSome o (λ r. HasBlockIn g.space r.1)
first g n None h = tt
first g n (Some r) h = h.0

second : (g : Graph') (n : ℕ) (o : Option (BlockId × Spot)) → AreRows g n o → IfSome o (λ r. id_in g.space r.1 ≡ r.0)
second g n None h = tt
second g n (Some r) h = h.1

third : (g : Graph') (n : ℕ) (o : Option (BlockId × Spot)) → AreRows g n o → IfSome o (λ r. Has (begun g) r.0)
third g n None h = tt
third g n (Some r) h = h.2

pub returns-then-n-self-clause-value : goal.returns-then-n-self-clause-value
returns-then-n-self-clause-value c =
    let g = c.args.self.now in
    let l : c.args.n < g.began = subst (λ (y : Graph'). c.args.n < y.began) c.self.view_is c.if-n-self.true in
    let e : c.get.result ≡ slice_get g.rows c.args.n = c.get.ensures ∙ ap (λ (y : Graph'). slice_get y.rows c.args.n) c.self.view_is in
    here g c.args.n c.get.result l e

pub returns-then-n-self-clause-there : goal.returns-then-n-self-clause-there
returns-then-n-self-clause-there c =
    let g = c.args.self.now in
    let l : c.args.n < g.began = subst (λ (y : Graph'). c.args.n < y.began) c.self.view_is c.if-n-self.true in
    let e : c.get.result ≡ slice_get g.rows c.args.n = c.get.ensures ∙ ap (λ (y : Graph'). slice_get y.rows c.args.n) c.self.view_is in
    first g c.args.n c.get.result (rows g c.args.n c.get.result (subst IsGraph c.self.view_is c.self.invariant.0) l e)

pub returns-then-n-self-clause-its : goal.returns-then-n-self-clause-its
returns-then-n-self-clause-its c =
    let g = c.args.self.now in
    let l : c.args.n < g.began = subst (λ (y : Graph'). c.args.n < y.began) c.self.view_is c.if-n-self.true in
    let e : c.get.result ≡ slice_get g.rows c.args.n = c.get.ensures ∙ ap (λ (y : Graph'). slice_get y.rows c.args.n) c.self.view_is in
    second g c.args.n c.get.result (rows g c.args.n c.get.result (subst IsGraph c.self.view_is c.self.invariant.0) l e)

pub returns-then-n-self-clause-begun : goal.returns-then-n-self-clause-begun
returns-then-n-self-clause-begun c =
    let g = c.args.self.now in
    let l : c.args.n < g.began = subst (λ (y : Graph'). c.args.n < y.began) c.self.view_is c.if-n-self.true in
    let e : c.get.result ≡ slice_get g.rows c.args.n = c.get.ensures ∙ ap (λ (y : Graph'). slice_get y.rows c.args.n) c.self.view_is in
    third g c.args.n c.get.result (rows g c.args.n c.get.result (subst IsGraph c.self.view_is c.self.invariant.0) l e)

pub returns-else-n-self-clause-value : goal.returns-else-n-self-clause-value
returns-else-n-self-clause-value c =
    let g = c.args.self.now in
    let l : g.began ≤ c.args.n = subst (λ (y : Graph'). y.began ≤ c.args.n) c.self.view_is (omega (arith, c.if-n-self.false)) in
    sym (first_past (keys_of g.rows) g.began c.args.n l)
