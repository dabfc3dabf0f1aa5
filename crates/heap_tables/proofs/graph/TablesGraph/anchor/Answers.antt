use Rattle.std.proofs.Common.{◌≡◌, ◌∙◌, sym, ap, arith, drop, slice_get}
use Rattle.block_table.specs.Places.{somes}
use Rattle.heap_tables.specs.Graphs.{anchor_places}
use Rattle.heap_tables.proofs.Fronts.{here_is, left_is, none_is}
use Rattle.heap_tables.proofs.graph.TablesGraph.anchor.Goals as goal

pub returns-in-None : goal.returns-in-None
returns-in-None c =
    let t = c.args.self.now in
    let places = anchor_places t in
    none_is (somes places) c.loop.counter c.args.n (c.loop.invariant ∙ c.in-None.ensures) (omega (arith, c.loop-test.true))

pub loop-preserved : goal.loop-preserved
loop-preserved c =
    let t = c.args.self.now in
    let places = anchor_places t in
    sym (left_is (somes places) c.loop.counter c.in-Some.found.0 (somes (drop c.in-Some.found.1 places)) (c.loop.invariant ∙ c.in-Some.ensures))

pub returns-in-Some-anchor_from : goal.returns-in-Some-anchor_from
returns-in-Some-anchor_from c =
    let t = c.args.self.now in
    let places = anchor_places t in
    let end : c.loop.counter ≡ c.args.n = omega (arith, c.loop-test.false, c.loop.auto.counter-end) in
    here_is (somes places) c.loop.counter c.in-Some-anchor_from.found.0 (somes (drop c.in-Some-anchor_from.found.1 places)) (c.loop.invariant ∙ c.in-Some-anchor_from.ensures) ∙ ap (slice_get (somes places)) end

pub returns-in-None-anchor_from : goal.returns-in-None-anchor_from
returns-in-None-anchor_from c =
    let t = c.args.self.now in
    let places = anchor_places t in
    none_is (somes places) c.loop.counter c.args.n (c.loop.invariant ∙ c.in-None-anchor_from.ensures) (omega (arith, c.loop.auto.counter-end))
