use Rattle.std.proofs.Common.{◌≡◌, ◌∙◌, ◌≤◌, sym, arith}
use Rattle.std.proofs.lemmas.Bool.{ltb-false}
use Rattle.zone_model.specs.Holds.{words_to}
use Rattle.local_set.specs.WordReferences.{references_in}
use Rattle.local_set.proofs.Quantities.{no_references}
use Rattle.local_set.proofs.blocks.forget_words.Goals as goal

pub returns-else-refers-clause-counts : goal.returns-else-refers-clause-counts
returns-else-refers-clause-counts c = λ q.
    let most : references_in c.args.block.now.words ≤ 0 = ltb-false 0 (references_in c.args.block.now.words) (sym c.refers.ensures ∙ c.if-refers.false) in
    let no : words_to q c.args.block.now.words ≡ 0 = no_references q c.args.block.now.words (omega (arith, most)) in
    omega (arith, no)
