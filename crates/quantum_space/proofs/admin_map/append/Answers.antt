use Rattle.std.proofs.Common.{◌∙◌, ap, get_or, arith, length, length-append, ◌∷◌, []}
use Rattle.quantum_space.proofs.Cursors.{push_default}
use Rattle.quantum_space.proofs.admin_map.append.Goals as goal

pub loop-done-preserved : goal.loop-done-preserved
loop-done-preserved g c = record {
  count = ap length c.push_reserved.ensures.items ∙ omega (arith, length-append c.loop-done.list.items (c.args.item ∷ []), c.loop-done.invariant.count);
  same = λ k. ap (λ xs. get_or xs k c.args.item) c.push_reserved.ensures.items ∙ push_default c.loop-done.list.items c.args.item k ∙ c.loop-done.invariant.same k;
  capacity = c.push_reserved.ensures.capacity ∙ c.loop-done.invariant.capacity;
}
