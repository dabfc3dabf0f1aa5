use Rattle.std.proofs.Common.{ℕ, sym, subst, arith}
use Rattle.escape_plan.specs.Moving.{Told}
use Rattle.zone_escape.specs.Telling.{below, moved_at}
use Rattle.escape_plan.proofs.Telling.{told_as, told_both}
use Rattle.zone_escape.proofs.Told.{told_nothing, can_all_still, below_none, below_more}
use Rattle.zone_escape.proofs.telling.tell_registers.Goals as goal

pub loop-n-init : goal.loop-n-init
loop-n-init c = record { told = told_nothing c.args.local.now c.args.heap.now _ (λ q. below_none (moved_at c.args.local.now) q); sixteen = λ h. absurd (omega (arith, h)) }

pub tell_register-requires : goal.tell_register-requires
tell_register-requires c = can_all_still c.args.local.now c.args.heap.now c.loop-n.heap _ c.requires c.loop-n.invariant.told

pub loop-n-preserved : goal.loop-n-preserved
loop-n-preserved c = record {
  told = let l = c.args.local.now in told_as l c.args.heap.now c.tell_register.new.heap _ _ (λ q. sym (below_more (moved_at l) c.loop-n.n q))
      (told_both l c.args.heap.now c.loop-n.heap c.tell_register.new.heap (below (moved_at l) c.loop-n.n) (moved_at l c.loop-n.n) c.loop-n.invariant.told
      (subst (λ (r : ℕ). Told l c.loop-n.heap c.tell_register.new.heap (moved_at l r)) (c.in-Some.ensures.1) c.tell_register.ensures.told));
  sixteen = λ h. c.tell_register.ensures.sixteen;
}
