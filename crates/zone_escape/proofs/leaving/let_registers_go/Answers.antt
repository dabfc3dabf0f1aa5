use Rattle.std.proofs.Common.{ℕ, sym, subst}
use Rattle.escape_plan.specs.Moving.{Told}
use Rattle.zone_escape.specs.Telling.{below, emptied, stands_at}
use Rattle.escape_plan.proofs.Telling.{told_as, told_both}
use Rattle.zone_escape.proofs.Told.{told_nothing, below_none, below_more}
use Rattle.zone_escape.proofs.leaving.let_registers_go.Goals as goal

pub loop-n-init : goal.loop-n-init
loop-n-init c = told_nothing (emptied c.args.local.now) c.args.heap.now _ (λ q. below_none (stands_at c.args.local.now) q)

pub loop-n-preserved : goal.loop-n-preserved
loop-n-preserved c =
    let l = c.args.local.now in
    told_as (emptied l) c.args.heap.now c.let_register_go.new.heap _ _ (λ q. sym (below_more (stands_at l) c.loop-n.n q))
    (told_both (emptied l) c.args.heap.now c.loop-n.heap c.let_register_go.new.heap (below (stands_at l) c.loop-n.n) (stands_at l c.loop-n.n) c.loop-n.invariant
    (subst (λ (r : ℕ). Told (emptied l) c.loop-n.heap c.let_register_go.new.heap (stands_at l r)) c.in-Some.ensures.1 c.let_register_go.ensures))
