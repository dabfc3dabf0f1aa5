use Rattle.std.proofs.Common.{rules, ◌∙◌, ap, filter}
use Rattle.std.proofs.lemmas.Fn.{filter_same}
use Rattle.az_base.specs.Ids.{among}
use Rattle.finalise_pass.proofs.settling.those_inside.Goals as goal

pub returns : goal.returns
returns g c =
    let blocks = (g.G.Graph.shape c.args.graph.now).blocks in
    c.from_vec.ensures.list ∙ filter_same _ (among blocks) _ (λ x b f h. search rules) _ _ c.retain.ensures.filtered ∙ ap (filter (among blocks)) c.into_vec-ids.ensures.list
