use Rattle.std.proofs.Common.{arith, length}
use Rattle.finalise_pass.proofs.Numbered.{length_numbered}
use Rattle.finalise_pass.proofs.small_graph.SmallGraphGraph.remembered_count.Goals as goal

pub returns-then-self : goal.returns-then-self
returns-then-self c = rw c.if-self.true (omega (arith, c.len.ensures, length_numbered c.args.self.now.thread 0 (length c.args.self.now.shades.items)))
