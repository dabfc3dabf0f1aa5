use Rattle.zone_escape.proofs.Ended.{let_go}
use Rattle.zone_escape.proofs.leaving.let_all_go.Goals as goal

pub returns : goal.returns
returns c = let_go c.args.local.now c.args.heap.now c.let_registers_go.new.heap c.let_blocks_go.new.heap c.args.own.now (λ b h. (c.requires.1 b).1 h) c.let_registers_go.ensures c.let_blocks_go.ensures
