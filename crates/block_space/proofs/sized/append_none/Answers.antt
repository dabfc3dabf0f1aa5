use Rattle.std.proofs.Common.{◌∙◌, ap, List, ℕ, get_or, arith, length, length-append, ◌∷◌, []}
use Rattle.block_space.proofs.Sizing.{push_zero}
use Rattle.block_space.proofs.sized.append_none.Goals as goal

pub loop-done-preserved : goal.loop-done-preserved
loop-done-preserved c = record {
  count = ap length c.push_reserved.ensures.items ∙ omega (arith, length-append c.loop-done.sizes.items (0 ∷ []), c.loop-done.invariant.count);
  same = λ k. ap (λ (xs : List ℕ). get_or xs k 0) c.push_reserved.ensures.items ∙ push_zero c.loop-done.sizes.items k ∙ c.loop-done.invariant.same k;
  capacity = c.push_reserved.ensures.capacity ∙ c.loop-done.invariant.capacity;
}
