use Rattle.std.proofs.Common.{◌∙◌, ap, List, Option, None, get_or, arith, length, length-append, ◌∷◌, []}
use Rattle.block_layouts.specs.declared.layout.Layout.{Layout}
use Rattle.quantum_space.proofs.Cursors.{push_default}
use Rattle.quantum_space.proofs.region.append_none.Goals as goal

pub loop-done-preserved : goal.loop-done-preserved
loop-done-preserved c = record {
  count = ap length c.push_reserved.ensures.items ∙ omega (arith, length-append c.loop-done.layouts.items (None ∷ []), c.loop-done.invariant.count);
  same = λ k. ap (λ (xs : List (Option Layout)). get_or xs k None) c.push_reserved.ensures.items ∙ push_default c.loop-done.layouts.items None k ∙ c.loop-done.invariant.same k;
  capacity = c.push_reserved.ensures.capacity ∙ c.loop-done.invariant.capacity;
}
