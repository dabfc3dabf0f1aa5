use Rattle.std.proofs.Common.{refl, ap, ◌∙◌, subst, arith}
use Rattle.std.proofs.lemmas.Option.{slice_get_read}
use Rattle.az_base.specs.Ids.{among}
use Rattle.space_graph.specs.Graphs.{Graph', KnowsNothing, spot_for}
use Rattle.space_graph.proofs.Leaving.{all_nothing, less_itself, less_more, take_next, take_whole}
use Rattle.space_graph.proofs.Steps.{len_rest}
use Rattle.space_graph.proofs.graph.SpaceGraph.forget_all.Goals as goal

pub loop-n-init : goal.loop-n-init
loop-n-init c = record { less = less_itself c.args.self.now; none = λ a x h. cc }

pub loop-n-preserved : goal.loop-n-preserved
loop-n-preserved c =
    let g = c.args.self.now in
    let cur = c.loop-n.self in
    let new = c.forget_one.new.self in
    let id = c.index-ids-n.result in
    let i = c.loop-n.invariant in
    let at = slice_get_read c.args.ids.now _ c.loop-n.n id refl c.loop-n-test.true c.index-ids-n.is in
    record {
      less = less_more g cur new i.less c.forget_one.ensures.less;
      none = λ a x h e. all_nothing g cur new _ id c.forget_one.ensures.less
          (λ y f. subst (λ n. KnowsNothing new.space y n) (len_rest cur g y i.less.rest) (c.forget_one.ensures.none y (ap (λ (z : Graph'). spot_for z.rows id) i.less.rest ∙ f)))
          i.none a x (ap (λ l. among l a) (take_next c.args.ids.now c.loop-n.n id at) ∙ h) e;
    }

pub returns-clause-none : goal.returns-clause-none
returns-clause-none c = λ a x h e. c.loop-n.invariant.none a x (ap (λ l. among l a) (take_whole c.args.ids.now c.loop-n.n (omega (arith, c.loop-n-test.false))) ∙ h) e
