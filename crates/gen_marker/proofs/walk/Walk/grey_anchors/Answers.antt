use Rattle.std.proofs.Common.{◌≡◌, ◌∙◌, sym, refl, subst, ◌∷◌, inl, inr, IsTrue, IsFalse}
use Rattle.az_base.specs.declared.block_id.BlockId.{BlockId}
use Rattle.az_base.specs.declared.action.Mode.{Mode}
use Rattle.gen_marker.specs.Marking.{Enlivens, Among, in_scope}
use Rattle.quantum_space.specs.Shapes.{Shape, Shades, Has, anchors}
use Rattle.gen_marker.proofs.Marks.{OneMore, one_taken, greys_more, ahead_on}
use Rattle.gen_marker.proofs.walk.Walk.grey_anchors.Goals as goal

pub loop-found-preserved : goal.loop-found-preserved
loop-found-preserved g c =
    let i = c.loop-found.invariant in
    let e = c.grey_in_scope.ensures in
    let next = c.in-Some.found.0 in
    let s = g.G.Graph.shape c.args.graph.now in
    let mid : Shades = g.G.Graph.shades c.loop-found.graph in
    let new : Shades = g.G.Graph.shades c.grey_in_scope.new.graph in
    let same_shape : g.G.Graph.shape c.loop-found.graph ≡ s = i.only.shape in
    let split : s.anchors_from c.loop-found.place ≡ next ∷ s.anchors_from c.in-Some.found.1 = subst (λ (x : Shape). x.anchors_from c.loop-found.place ≡ next ∷ x.anchors_from c.in-Some.found.1) same_shape c.in-Some.ensures in
    let one : OneMore (Among c.args.self.now.mode s (anchors s)) next (g.G.Graph.shades c.loop-found.graph) (g.G.Graph.shades c.grey_in_scope.new.graph) =
    one_taken _ s _ next _ _ (i.within next (subst (λ xs. Has xs next) (sym split) (inl refl)))
    (subst (λ (m : Mode). IsTrue (in_scope m s next) → Enlivens s.blocks next mid new) i.mode (subst (λ (x : Shape). IsTrue (in_scope c.loop-found.self.mode x next) → Enlivens x.blocks next mid new) same_shape e.in_scope))
    (subst (λ (m : Mode). IsFalse (in_scope m s next) → (q : BlockId) → new q ≡ mid q) i.mode (subst (λ (x : Shape). IsFalse (in_scope c.loop-found.self.mode x next) → (q : BlockId) → new q ≡ mid q) same_shape e.not)) in
    record {
      tracks = e.tracks;
      mode = e.mode ∙ i.mode;
      room = e.room ∙ i.room;
      only = record { shape = e.only.shape ∙ same_shape; rest = e.only.rest ∙ i.only.rest };
      same = greys_more _ _ _ _ _ one i.same;
      ahead = ahead_on _ _ _ _ _ _ one split i.ahead;
      within = λ b h. i.within b (subst (λ xs. Has xs b) (sym split) (inr h));
    }
