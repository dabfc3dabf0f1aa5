use Rattle.std.proofs.Common.{◌<◌, ◌∙◌, ◌++◌, [], ◌∷◌, ap, arith, length}
use Rattle.finalise_pass.proofs.Storing.{store_is, row_store, pushed, unpushed}
use Rattle.finalise_pass.proofs.small_graph.SmallGraph.store.Goals as goal

pub returns-in_err-push-clause-stored : goal.returns-in_err-push-clause-stored
returns-in_err-push-clause-stored c =
    let lt : c.a.inside.serial < length c.args.self.now.edges.items = omega arith in
    let same = c.in_err-push.ensures.items ∙ ap (λ v. v.items) c.index_mut.ensures.value in
    store_is _ _ _ _ _ _ c.args.self.now.all_remembered c.args.self.now.some_remembered.items c.args.b (λ i. row_store (λ v. v.items) c.args.self.now.edges.items c.a.inside.serial i c.push.new.self c.index_mut.result.now c.args.b lt (unpushed _ _ c.args.b same))

pub returns-in_ok-push-clause-stored : goal.returns-in_ok-push-clause-stored
returns-in_ok-push-clause-stored c =
    let lt : c.a.inside.serial < length c.args.self.now.edges.items = omega arith in
    let same = c.in_ok-push.ensures.items ∙ ap (λ v. v.items ++ c.args.b ∷ []) c.index_mut.ensures.value in
    store_is _ _ _ _ _ _ c.args.self.now.all_remembered c.args.self.now.some_remembered.items c.args.b (λ i. row_store (λ v. v.items) c.args.self.now.edges.items c.a.inside.serial i c.push.new.self c.index_mut.result.now c.args.b lt (pushed _ _ c.args.b same))
