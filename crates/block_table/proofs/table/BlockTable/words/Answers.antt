use Rattle.std.proofs.Common.{sym, ap, ◌∙◌, length}
use Rattle.block_space.specs.Spaces.{Space'}
use Rattle.block_space.specs.Marking.{len_in}
use Rattle.block_table.proofs.Lying.{long_words}
use Rattle.block_table.proofs.Told.{words_none, words_there}
use Rattle.block_table.proofs.table.BlockTable.words.Goals as goal

pub returns-in-Some-clause-value : goal.returns-in-Some-clause-value
returns-in-Some-clause-value c =
    let g = c.self.inside.graph in
    let x = c.in-Some.spot in
    c.len_in.ensures.value ∙ ap (λ (s : Space'). len_in s x) c.space.ensures ∙ sym (long_words g.space x 0 (len_in g.space x))
    ∙ sym (ap length (words_there _ g c.self.inside.kept.entries c.self.view_is c.args.id x c.in-Some.ensures.value))

pub returns-in-None-clause-value : goal.returns-in-None-clause-value
returns-in-None-clause-value c = sym (ap length (words_none _ c.self.inside.graph c.self.inside.kept.entries c.self.view_is c.args.id c.in-None.ensures.value))
