use Rattle.std.proofs.Common.{◌++◌, ◌∷◌, [], List, slice_get, sym, ap, ◌∙◌, arith}
use Rattle.az_base.specs.declared.block_id.BlockId.{BlockId}
use Rattle.quantum_space.proofs.Visiting.{append_one}
use Rattle.space_graph.specs.Graphs.{edges_of, rest_of}
use Rattle.space_graph.proofs.Steps.{at_front, one_longer, past_front}
use Rattle.space_graph.proofs.graph.view.SpaceGraphGraph.edge.Goals as goal

pub loop-passed-preserved : goal.loop-passed-preserved
loop-passed-preserved c =
    let i = c.loop-passed.invariant in
    let more = one_longer i.front c.in-Some.found.0 in
    record {
      front = i.front ++ c.in-Some.found.0 ∷ [];
      split = i.split ∙ ap (λ l. i.front ++ l) c.in-Some.ensures ∙ append_one i.front c.in-Some.found.0 _;
      count = omega (arith, more, i.count);
    }

pub returns-in-None : goal.returns-in-None
returns-in-None c =
    let i = c.loop-passed.invariant in
    sym (ap (λ (l : List BlockId). slice_get l c.args.n) (i.split ∙ ap (λ l. i.front ++ l) c.in-None.ensures) ∙ past_front i.front c.args.n (omega (arith, i.count, c.loop-passed-test.true)))

pub returns-in-Some-edge_from : goal.returns-in-Some-edge_from
returns-in-Some-edge_from c =
    let i = c.loop-passed.invariant in
    sym (ap (λ (l : List BlockId). slice_get l c.args.n) (i.split ∙ ap (λ l. i.front ++ l) c.in-Some-edge_from.ensures)
    ∙ at_front i.front (edges_of (rest_of c.args.self.now) c.args.id c.in-Some-edge_from.found.1) c.in-Some-edge_from.found.0 c.args.n (omega (arith, i.count, c.loop-passed-test.false, c.loop-passed.auto.passed-end)))

pub returns-in-None-edge_from : goal.returns-in-None-edge_from
returns-in-None-edge_from c =
    let i = c.loop-passed.invariant in
    sym (ap (λ (l : List BlockId). slice_get l c.args.n) (i.split ∙ ap (λ l. i.front ++ l) c.in-None-edge_from.ensures) ∙ past_front i.front c.args.n (omega (arith, i.count, c.loop-passed.auto.passed-end)))
