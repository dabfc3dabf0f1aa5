use Rattle.std.proofs.Common.{◌∙◌, sym, arith}
use Rattle.block_table.specs.Places.{in_word}
use Rattle.block_table.specs.Lying.{layout_at, words_at}
use Rattle.block_table.proofs.Lying.{long_words}
use Rattle.block_space.specs.Marking.{len_in}
use Rattle.block_table.proofs.Somes.{length_mapped}
use Rattle.block_table.proofs.Words.{none_left, to_strong, word_refers, word_refers_to_none}
use Rattle.block_table.proofs.reading.next_word.Goals as goal

pub returns-in_default-clause-next : goal.returns-in_default-clause-next
returns-in_default-clause-next c = none_left (words_at c.args.space.now c.args.spot) (layout_at c.args.space.now c.args.spot) c.args.at c.requires.fits c.in_default.ensures

pub loop-place-init : goal.loop-place-init
loop-place-init c = to_strong (words_at c.args.space.now c.args.spot) (layout_at c.args.space.now c.args.spot) c.args.at c.in-Some.first c.requires.fits c.in-Some.ensures.0 c.in-Some.ensures.1

pub returns-in-Some-reference-clause-next : goal.returns-in-Some-reference-clause-next
returns-in-Some-reference-clause-next c =
    let words = words_at c.args.space.now c.args.spot in
    let long = length_mapped in_word words in
    let all = long_words c.args.space.now c.args.spot 0 (len_in c.args.space.now c.args.spot) in (
      c.loop-place.invariant ∙ word_refers words c.loop-place.place c.in-Some-reference.id (sym c.in-Some-reference.is ∙ c.reference.ensures),
      (let t = c.loop-place-test.true in let e = c.len_in-len.ensures.value in omega (arith, long, all, t, e)),
    )

pub loop-place-preserved : goal.loop-place-preserved
loop-place-preserved c =
    let words = words_at c.args.space.now c.args.spot in
    let all = long_words c.args.space.now c.args.spot 0 (len_in c.args.space.now c.args.spot) in
    c.loop-place.invariant ∙ word_refers_to_none words c.loop-place.place (let t = c.loop-place-test.true in let e = c.len_in-len.ensures.value in omega (arith, all, t, e)) (sym c.in_default-reference.is ∙ c.reference.ensures)

pub returns-in_default-clause-few : goal.returns-in_default-clause-few
returns-in_default-clause-few c = (let all = long_words c.args.space.now c.args.spot 0 (len_in c.args.space.now c.args.spot) in omega (arith, all, c.len_in-len.ensures.value, c.len_in-len.ensures.range))

pub returns-in-Some-reference-clause-few : goal.returns-in-Some-reference-clause-few
returns-in-Some-reference-clause-few c = (let all = long_words c.args.space.now c.args.spot 0 (len_in c.args.space.now c.args.spot) in omega (arith, all, c.len_in-len.ensures.value, c.len_in-len.ensures.range))

pub returns-clause-few : goal.returns-clause-few
returns-clause-few c = (let all = long_words c.args.space.now c.args.spot 0 (len_in c.args.space.now c.args.spot) in omega (arith, all, c.len_in-len.ensures.value, c.len_in-len.ensures.range))
