use Rattle.std.proofs.Common.{◌≡◌, Some, slice_get, ap, ◌∙◌}
use Rattle.block_layouts.specs.Layouts.{len_of}
use Rattle.space_graph.specs.Graphs.{Graph'}
use Rattle.space_graph.proofs.Comings.{one_left, room_less, rows_more}
use Rattle.space_graph.proofs.graph.SpaceGraph.put.Goals as goal

pub invariant_of-self : goal.invariant_of-self
invariant_of-self c =
    let next : slice_get c.self.inside.space.spare 0 ≡ Some (len_of c.args.layout) = ap (λ (y : Graph'). slice_get y.space.spare 0) c.self.view_is ∙ c.requires.next in
    let spot = c.place_black-spot.result in
    let put = c.place_black-spot.ensures in (
      rows_more _ _ c.self.view_is c.self.invariant.0 c.push.new.self.list c.place_black-spot.new.space c.args.id c.args.layout spot (one_left _ _ _ _ next c.self.invariant.1).1 c.requires.absent c.push.ensures.list put,
      room_less _ _ _ _ _ _ _ c.args.id spot c.push.ensures.list next put.spare c.push.ensures.room c.self.invariant.1,
    )
