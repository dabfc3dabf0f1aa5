use Rattle.std.proofs.Common.{◌≡◌, ◌∙◌, sym, ap, subst, filter, List}
use Rattle.std.specs.List.Sorted.{IsStrictlySortedBy}
use Rattle.az_base.specs.declared.action.Mode.{Mode}
use Rattle.az_base.specs.Ids.{id_cmp, among}
use Rattle.az_base.specs.declared.block_id.BlockId.{BlockId}
use Rattle.quantum_space.specs.Shapes.{Once, Shape, Shades, anchors}
use Rattle.quantum_space.proofs.Sorting.{sorted_once, sorted_among, once_filter}
use Rattle.gen_marker.specs.Marking.{Marking, is_left, Among, Greys, Spreads}
use Rattle.gen_marker.proofs.Ends.{finishes}
use Rattle.gen_marker.proofs.marker.Marker.finish_uncounted.Goals as goal

pub invariant_of-result : goal.invariant_of-result
invariant_of-result g c = record {
  ascending =
      subst (λ xs. IsStrictlySortedBy id_cmp xs) (sym c.from_vec.ensures.list)
      (sorted_once c.gather-ids.result.items c.sort_unstable.new.self.items (subst Once (sym c.gather-ids.ensures) (once_filter _ _ c.scan_all.ensures.tracks.apart)) c.sort_unstable.ensures.permutation c.sort_unstable.ensures.sorted);
}

pub returns-clause-finishes : goal.returns-clause-finishes
returns-clause-finishes g c =
    let s : Shape = g.G.Graph.shape c.args.graph.now in
    let same_mode : c.self.inside.walk.mode ≡ c.args.self.mode = ap (λ (m : Marking). m.mode) c.self.view_is in
    let old : Shades = g.G.Graph.shades c.args.graph.now in
    let mid : Shades = g.G.Graph.shades c.grey_anchors.new.graph in
    let new : Shades = g.G.Graph.shades c.scan_all.new.graph in
    let greys : Greys (Among c.args.self.mode s (anchors s)) old mid = subst (λ (m : Mode). Greys (Among m s (anchors s)) old mid) same_mode c.grey_anchors.ensures.greys in
    let spreads : Spreads c.args.self.mode s mid new =
    subst (λ (m : Mode). Spreads m s mid new) (c.grey_anchors.ensures.mode ∙ same_mode)
    (subst (λ (x : Shape). Spreads c.grey_anchors.new.self.mode x mid new) c.grey_anchors.ensures.only.shape c.scan_all.ensures.spreads) in
    finishes _ _ _ _ _ greys spreads

pub returns-clause-ids : goal.returns-clause-ids
returns-clause-ids g c =
    let new : Shades = g.G.Graph.shades c.scan_all.new.graph in
    let left : List BlockId = c.gather-ids.result.items in
    let modes : c.scan_all.new.self.mode ≡ c.args.self.mode = c.scan_all.ensures.mode ∙ c.grey_anchors.ensures.mode ∙ ap (λ (m : Marking). m.mode) c.self.view_is in
    let shapes : g.G.Graph.shape c.scan_all.new.graph ≡ g.G.Graph.shape c.args.graph.now = c.scan_all.ensures.only.shape ∙ c.grey_anchors.ensures.only.shape in
    let is : left ≡ filter (is_left c.args.self.mode (g.G.Graph.shape c.args.graph.now) new) (g.G.Graph.shape c.args.graph.now).blocks =
    subst (λ (x : Shape). left ≡ filter (is_left c.args.self.mode x new) x.blocks) shapes
    (subst (λ (m : Mode). left ≡ filter (is_left m (g.G.Graph.shape c.scan_all.new.graph) new) (g.G.Graph.shape c.scan_all.new.graph).blocks) modes c.gather-ids.ensures) in
    λ b. ap (λ (l : List BlockId). among l b) c.from_vec.ensures.list ∙ sorted_among left c.sort_unstable.new.self.items c.sort_unstable.ensures.permutation b ∙ ap (λ (l : List BlockId). among l b) is
