use Rattle.std.proofs.Common.{◌∙◌, ap, sym}
use Rattle.az_words.specs.Words.{words_of}
use Rattle.az_words.proofs.Cutting.{word_cut, skip_blanks, some_left, none_left}
use Rattle.az_words.proofs.words.next_word.Goals as goal

pub returns-then-is_empty-clause-none : goal.returns-then-is_empty-clause-none
returns-then-is_empty-clause-none c =
    skip_blanks c.args.line.now c.blanks.result c.blanks.ensures.before ∙ ap words_of (sym c.split_at.ensures.back)
    ∙ ap words_of (none_left c.split_at.result.1.now c.is_empty.result c.is_empty.ensures c.if-is_empty.true)

pub returns-clause-some : goal.returns-clause-some
returns-clause-some c =
    let start = c.blanks.ensures in
    let end = c.word_len.ensures in
    rw (c.split_at-2.ensures.front, c.split_at-2.ensures.back)
    (word_cut c.args.line.now c.split_at.result.1.now c.blanks.result c.word_len.result c.split_at.ensures.back start.before start.here start.within
    (some_left c.split_at.result.1.now c.is_empty.result c.is_empty.ensures c.if-is_empty.false) end.within end.before end.here)
