use Rattle.std.proofs.Common.{sym, ◌∙◌}
use Rattle.space_graph.proofs.Comings.{put_black}
use Rattle.space_graph.proofs.graph.building.place_black.Goals as goal

pub returns : goal.returns
returns c = put_black c.args.space.now c.place-place.new.self c.shade_spot.new.self c.args.id c.args.layout c.in-Some.spot
    (c.place-place.ensures.by_quantum c.in-Some.spot (sym c.spot_of.ensures ∙ c.in-Some.is)) c.place-place.ensures.placed.spare c.shade_spot.ensures
