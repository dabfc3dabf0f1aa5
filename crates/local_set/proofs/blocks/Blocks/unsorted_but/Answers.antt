use Rattle.std.proofs.Common.{[], ◌++◌, ◌∷◌, ap, cond, sym, ◌∙◌}
use Rattle.std.specs.Map.{keys_of}
use Rattle.az_base.specs.Ids.{among}
use Rattle.local_set.proofs.Sorting.{next_but}
use Rattle.local_set.proofs.blocks.Blocks.unsorted_but.Goals as goal

pub loop-n-preserved : goal.loop-n-preserved
loop-n-preserved c =
    c.in_ok-push_but.ensures ∙ ap (λ l. l ++ cond (among c.args.found.now.keys c.in-Some.id) [] (c.in-Some.id ∷ [])) c.loop-n.invariant ∙ next_but (keys_of c.args.self.now.list) c.args.found.now.keys c.loop-n.n c.in-Some.id (sym c.nth.ensures ∙ c.in-Some.is)
