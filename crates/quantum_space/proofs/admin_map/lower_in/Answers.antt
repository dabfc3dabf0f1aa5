use Rattle.std.proofs.Common.{arith, ◌∙◌, ◌≡◌, ◌+◌, get_or}
use Rattle.std.proofs.lemmas.List.{get_or_read}
use Rattle.std.proofs.Math.ListN.{length-set}
use Rattle.quantum_space.proofs.Cursors.{set_lower, set_back}
use Rattle.quantum_space.proofs.admin_map.lower_in.Goals as goal

pub loop-len-preserved : goal.loop-len-preserved
loop-len-preserved c =
    let here : c.index.result.now ≡ get_or c.loop-len.low.items (c.args.base + c.loop-len.len) 0 = get_or_read c.loop-len.low.items _ _ (omega arith) c.index.ensures 0 in
    record {
      count = length-set _ _ _ ∙ c.loop-len.invariant.count;
      lower = set_lower c.loop-len.low.items c.args.low.now.items _ _ (omega arith) (omega (arith, here)) c.loop-len.invariant.lower;
      back = set_back c.loop-len.low.items c.args.base c.loop-len.len c.args.quantum _ (omega arith) (omega arith) c.loop-len.invariant.back;
    }

pub returns-clause-back : goal.returns-clause-back
returns-clause-back c = λ len l. c.loop-len.invariant.back len (omega arith)
