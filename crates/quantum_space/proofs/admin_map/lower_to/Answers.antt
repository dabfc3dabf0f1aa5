use Rattle.std.proofs.Common.{arith, ◌∙◌, inl, inr}
use Rattle.std.proofs.Math.ListN.{length-set}
use Rattle.quantum_space.proofs.Runs.{below_or}
use Rattle.quantum_space.proofs.Cursors.{past_end, set_lower, set_first}
use Rattle.quantum_space.proofs.admin_map.lower_to.Goals as goal

pub loop-len-preserved : goal.loop-len-preserved
loop-len-preserved c = record {
  count = length-set _ _ _ ∙ c.loop-len.invariant.count;
  lower = set_lower c.loop-len.first c.args.first.now _ _ (omega arith) (omega arith) c.loop-len.invariant.lower;
  back = set_first c.loop-len.first c.loop-len.len c.args.subzone _ (omega arith) (omega arith) c.loop-len.invariant.back;
}

pub returns-clause-back : goal.returns-clause-back
returns-clause-back c = λ len. elim (below_or len 33) [ inl b ↦ c.loop-len.invariant.back len (omega (arith, b, c.loop-len-test.false)) | inr b ↦ omega (arith, past_end c.loop-len.first len (omega (arith, b, c.loop-len.invariant.count))) ]
