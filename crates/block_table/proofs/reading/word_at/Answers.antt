use Rattle.std.proofs.Common.{◌≡◌, ◌+◌, Some, sym, ap, ◌∙◌, arith}
use Rattle.quantum_space.specs.PlacedWords.{word_of}
use Rattle.block_space.specs.Marking.{len_in, word_in}
use Rattle.block_table.proofs.Lying.{word_from, word_past}
use Rattle.block_table.proofs.reading.word_at.Goals as goal

pub returns-then-at-len_in : goal.returns-then-at-len_in
returns-then-at-len_in c =
    let s = c.args.space.now in
    let x = c.args.spot in
    let zero : 0 + c.args.at ≡ c.args.at = omega arith in
    ap (λ v. Some v) (c.word.ensures ∙ ap word_of c.word_in.ensures.value)
    ∙ sym (word_from s x 0 (len_in s x) c.args.at (omega (arith, c.if-at-len_in.true, c.len_in.ensures.value)) ∙ ap (λ j. Some (word_of (word_in s x j))) zero)

pub returns-else-at-len_in : goal.returns-else-at-len_in
returns-else-at-len_in c = sym (word_past c.args.space.now c.args.spot 0 (len_in c.args.space.now c.args.spot) c.args.at (omega (arith, c.if-at-len_in.false, c.len_in.ensures.value)))
