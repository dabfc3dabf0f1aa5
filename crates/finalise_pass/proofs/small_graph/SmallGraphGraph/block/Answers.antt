use Rattle.std.proofs.Common.{sym, arith}
use Rattle.finalise_pass.proofs.Numbered.{get_numbered, past_numbered}
use Rattle.finalise_pass.proofs.small_graph.SmallGraphGraph.block.Goals as goal

pub returns-then-n-len : goal.returns-then-n-len
returns-then-n-len c = sym (get_numbered c.args.self.now.thread _ c.args.n (omega arith))

pub returns-else-n-len : goal.returns-else-n-len
returns-else-n-len c = sym (past_numbered c.args.self.now.thread 0 _ c.args.n (omega arith))
