use Rattle.std.proofs.Common.{◌≡◌, ◌∙◌, sym, arith, length, map}
use Rattle.heap_tables.specs.Graphs.{if_held_in}
use Rattle.block_table.proofs.Somes.{mapped_some, mapped_none, length_mapped}
use Rattle.heap_tables.proofs.tables.Tables.held_from.Goals as goal

pub returns-in-Some-clause-next : goal.returns-in-Some-clause-next
returns-in-Some-clause-next c =
    let b = c.args.self.now.blocks in
    let long : length (map (if_held_in b.holds) b.order) ≡ length b.order = length_mapped (if_held_in b.holds) b.order in (
      c.loop-n.invariant ∙ mapped_some (if_held_in b.holds) b.order c.loop-n.n c.in-Some.id (sym c.held_at.ensures ∙ c.in-Some.is),
      omega (arith, long, c.from-len.ensures, c.len.ensures.value, c.loop-n-test.true),
    )

pub loop-n-preserved : goal.loop-n-preserved
loop-n-preserved c =
    let b = c.args.self.now.blocks in
    c.loop-n.invariant ∙ mapped_none (if_held_in b.holds) b.order c.loop-n.n (omega (arith, c.from-len.ensures, c.len.ensures.value, c.loop-n-test.true)) (sym c.held_at.ensures ∙ c.in_default.is)
