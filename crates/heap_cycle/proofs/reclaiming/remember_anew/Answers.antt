use Rattle.std.proofs.Common.{◌≡◌, ◌+◌, ◌++◌, ◌∷◌, [], ◌∙◌, ap, arith, subst, sym, vec_len}
use Rattle.std.specs.Vec.{vec_capacity}
use Rattle.heap_cycle.proofs.Remade.{Listed, all_listed, one_listed, one_passed}
use Rattle.heap_cycle.proofs.reclaiming.remember_anew.Goals.{in-Some, in_default}
use Rattle.heap_cycle.proofs.reclaiming.remember_anew.Goals as goal

pub loop-n-preserved : goal.loop-n-preserved
loop-n-preserved c =
    let t = c.args.tables.now in
    let n = c.loop-n.n in
    let so_far = c.loop-n.invariant.listed in
    elim c.match-card_at.branch [
      | in-Some w ↦ record {
        listed =
            let is : c.match-card_at.ids.items ≡ c.loop-n.ids.items ++ w.in-Some.id ∷ [] = cc (w.ids-is, w.push_reserved.ensures.items) in
            let some = w.in-Some.ensures.some in
            subst (Listed t (n + 1)) (sym is) (one_listed t c.loop-n.ids.items n so_far w.in-Some.id some.0 some.1);
        few = let long = ap vec_len w.ids-is in let more = w.push_reserved.ensures.len in let few = c.loop-n.invariant.few in omega (arith, long, more, few);
        room = ap vec_capacity w.ids-is ∙ w.push_reserved.ensures.capacity ∙ c.loop-n.invariant.room;
      }
      | in_default w ↦ record {
        listed =
            let is : c.match-card_at.ids.items ≡ c.loop-n.ids.items = cc (w.ids-is) in
            subst (Listed t (n + 1)) (sym is) (one_passed t c.loop-n.ids.items n so_far (omega arith) (c.card_at.ensures.none w.in_default.is));
        few = let long = ap vec_len w.ids-is in let few = c.loop-n.invariant.few in omega (arith, long, few);
        room = ap vec_capacity w.ids-is ∙ c.loop-n.invariant.room;
      }
    ]

pub returns-clause-cards : goal.returns-clause-cards
returns-clause-cards c = λ a.
    let all = all_listed c.args.tables.now c.loop-n.ids.items c.loop-n.n (omega arith) c.len-blocks.ensures.table c.loop-n.invariant.listed a in
    let same = c.from_vec.ensures.blocks a in
    (λ i. all.0 (sym same ∙ i), λ w. same ∙ all.1 w)
