use Rattle.std.proofs.Common.{◌≡◌, ◌++◌, ◌∷◌, [], None, sym, subst, ap, ◌∙◌}
use Rattle.az_base.specs.Ids.{id_eq}
use Rattle.indexmap.proofs.CallerLemmas.{insert_entry-new}
use Rattle.space_graph.specs.Graphs.{Rows', spot_for}
use Rattle.space_graph.proofs.rows.Rows.push.Goals as goal

pub returns-clause-list : goal.returns-clause-list
returns-clause-list c =
    c.in-Ok.ensures.entries
    ∙ insert_entry-new id_eq c.self.inside.map c.args.id c.args.spot (subst (λ (r : Rows'). spot_for r.list c.args.id ≡ None) (sym c.self.view_is) c.requires.absent)
    ∙ ap (λ (r : Rows'). r.list ++ (c.args.id, c.args.spot) ∷ []) c.self.view_is
