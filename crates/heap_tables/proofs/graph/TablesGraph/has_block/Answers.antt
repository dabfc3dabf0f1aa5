use Rattle.std.proofs.Common.{◌≡◌, arith}
use Rattle.block_table.proofs.Fronts.{take_has, has_take, in_whole}
use Rattle.heap_tables.proofs.Fronts.{tests_lt, lt_tests}
use Rattle.heap_tables.proofs.graph.TablesGraph.has_block.Goals as goal

pub returns-in-Some : goal.returns-in-Some
returns-in-Some c =
    let order = c.args.self.now.blocks.order in
    let e = c.began.ensures in (
      (λ t. (let l = tests_lt c.in-Some.n c.began.result t in take_has order c.args.self.now.blocks.began c.in-Some.n c.args.id c.in-Some.ensures.0 (omega (arith, l, e)))),
      (λ h. (let k = has_take order c.args.self.now.blocks.began c.args.id h in let same : k.0 ≡ c.in-Some.n = c.in-Some.ensures.1 k.0 k.2 in lt_tests c.in-Some.n c.began.result (omega (arith, same, k.1, e)))),
    )

pub returns-in-None : goal.returns-in-None
returns-in-None c = ((λ t. cc), (λ h. absurd (c.in-None.ensures (in_whole c.args.self.now.blocks.order c.args.self.now.blocks.began c.args.id h))))
