use Rattle.std.proofs.Common.{◌∙◌, ap, sym, arith}
use Rattle.std.proofs.lemmas.List.{nil_from_length}
use Rattle.az_words.specs.Words.{words_of}
use Rattle.az_words.proofs.Cutting.{first_cut, skip_blanks}
use Rattle.az_words.proofs.words.first_byte.Goals as goal

pub returns-in-empty-clause-none : goal.returns-in-empty-clause-none
returns-in-empty-clause-none c =
    let none = c.in-empty.len_below in
    skip_blanks c.args.line.now c.blanks.result c.blanks.ensures.before ∙ ap words_of (sym c.split_at.ensures.back) ∙ ap words_of (nil_from_length c.split_at.result.1.now (omega (arith, none)))

pub returns-in-len1-up-clause-some : goal.returns-in-len1-up-clause-some
returns-in-len1-up-clause-some c =
    let start = c.blanks.ensures in
    first_cut c.args.line.now c.split_at.result.1.now c.blanks.result c.split_at.ensures.back start.before start.here start.within c.in-len1-up.len_at_least
