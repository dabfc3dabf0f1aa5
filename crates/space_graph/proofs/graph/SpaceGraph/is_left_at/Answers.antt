use Rattle.std.proofs.Common.{◌&&◌, sym, ap, ◌∙◌, subst}
use Rattle.quantum_space.specs.Shapes.{is_unmarked}
use Rattle.block_space.specs.Marking.{byte_in, is_white_byte, takes_byte}
use Rattle.space_graph.specs.Graphs.{Graph', IsGraph, shades_of}
use Rattle.space_graph.proofs.Visits.{shade_is, taken_is}
use Rattle.space_graph.proofs.graph.SpaceGraph.is_left_at.Goals as goal

pub returns : goal.returns
returns c =
    let g = c.args.self.now in
    let inv : IsGraph g = subst IsGraph c.self.view_is c.self.invariant.0 in
    let x = c.args.spot in
    let byte = byte_in g.space x in
    c.is_left_in.ensures ∙ ap (λ (y : Graph'). is_white_byte c.args.mode (byte_in y.space x)) c.self.view_is
    ∙ ap (λ b. b && takes_byte c.args.mode byte) (ap is_unmarked (sym (shade_is g inv x c.requires.block c.args.id c.requires.its)))
    ∙ ap (λ b. is_unmarked (shades_of g c.args.id) && b) (sym (taken_is g inv x c.requires.block c.args.mode c.args.id c.requires.its))
