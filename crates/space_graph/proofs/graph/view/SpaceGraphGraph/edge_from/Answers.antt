use Rattle.std.proofs.Common.{◌≡◌, ◌+◌, ◌-◌, ◌<◌, ◌∷◌, ◌++◌, sym, ap, ◌∙◌, arith}
use Rattle.az_base.specs.declared.word.Word.TheVariants as plain
use Rattle.quantum_space.specs.PlacedWords.{word_of}
use Rattle.block_space.specs.Marking.{ends_from, len_in, unmarked, word_in}
use Rattle.space_graph.specs.Graphs.{Graph'}
use Rattle.space_graph.proofs.Steps.{edges_at, ends_word, no_end}
use Rattle.space_graph.proofs.graph.view.SpaceGraphGraph.edge_from.Goals as goal

pub returns-in-Block : goal.returns-in-Block
returns-in-Block c =
    let g = c.args.self.now in
    let x = c.in-Some.spot in
    let i = c.loop-i.i in
    let word : word_of (word_in g.space x i) ≡ plain.Block c.in-Block.end = ap (λ (y : Graph'). word_of (word_in y.space x i)) (sym c.self.view_is) ∙ ap word_of (sym c.word_in.ensures.value) ∙ sym c.word.ensures ∙ c.in-Block.is in
    let len = ap (λ (y : Graph'). len_in y.space x) c.self.view_is in
    let lt : i < len_in g.space x = omega (arith, c.loop-i-test.true, c.len_in-len.ensures.value, len) in
    c.loop-i.invariant.left ∙ ends_word g.space x i (len_in g.space x) (plain.Block c.in-Block.end) lt word
    ∙ ap (λ l. c.in-Block.end ∷ l) (sym (edges_at g c.args.id x (i + 1) (sym c.find.ensures.value ∙ c.in-Some.is)))

pub loop-i-preserved : goal.loop-i-preserved
loop-i-preserved c =
    let g = c.args.self.now in
    let x = c.in-Some.spot in
    let i = c.loop-i.i in
    let word : word_of (word_in g.space x i) ≡ c.word.result = ap (λ (y : Graph'). word_of (word_in y.space x i)) (sym c.self.view_is) ∙ ap word_of (sym c.word_in.ensures.value) ∙ sym c.word.ensures in
    let len = ap (λ (y : Graph'). len_in y.space x) c.self.view_is in
    let lt : i < len_in g.space x = omega (arith, c.loop-i-test.true, c.len_in-len.ensures.value, len) in
    record {
      left = c.loop-i.invariant.left ∙ ends_word g.space x i (len_in g.space x) c.word.result lt word
          ∙ ap (λ l. l ++ ends_from (unmarked g.space) x (i + 1) (len_in g.space x - (i + 1))) (no_end c.word.result c.in_default-word.not-Block);
    }
