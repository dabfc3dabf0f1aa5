use Rattle.std.proofs.Common.{◌≡◌, ap, ◌∙◌}
use Rattle.quantum_space.specs.PlacedWords.{word_of}
use Rattle.block_space.specs.Marking.{word_in}
use Rattle.space_graph.specs.Graphs.{Graph'}
use Rattle.space_graph.proofs.Leaving.{nothing_next, word_forgot}
use Rattle.space_graph.proofs.graph.SpaceGraph.forget_word.Goals as goal

pub returns-clause-less : goal.returns-clause-less
returns-clause-less c =
    let g = c.args.self.now in
    let is : c.word-word.result ≡ word_of (word_in g.space c.args.spot c.args.i) = c.word-word.ensures ∙ ap word_of c.word_in.ensures.value ∙ ap (λ (y : Graph'). word_of (word_in y.space c.args.spot c.args.i)) c.self.view_is in
    word_forgot g c.set_word.new.self c.args.spot c.args.i c.word-word.result is c.set_word.ensures

pub returns-clause-none : goal.returns-clause-none
returns-clause-none c =
    let g = c.args.self.now in
    let is : c.word-word.result ≡ word_of (word_in g.space c.args.spot c.args.i) = c.word-word.ensures ∙ ap word_of c.word_in.ensures.value ∙ ap (λ (y : Graph'). word_of (word_in y.space c.args.spot c.args.i)) c.self.view_is in
    nothing_next g c.set_word.new.self c.args.spot c.args.i c.word-word.result (word_forgot g c.set_word.new.self c.args.spot c.args.i c.word-word.result is c.set_word.ensures) c.set_word.ensures
