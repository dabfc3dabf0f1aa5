use Rattle.std.proofs.Common.{arith}
use Rattle.az_words.proofs.Parting.{cut_here, cut_nowhere}
use Rattle.az_words.proofs.parts.cut_at.Goals as goal

pub returns-in-len1-up-clause-some : goal.returns-in-len1-up-clause-some
returns-in-len1-up-clause-some c =
    let cut = c.front_len.ensures in
    cut_here c.args.byte c.args.word.now c.split_at.result.0.now c.split_at.result.1.now c.front_len.result c.split_at.ensures.front c.split_at.ensures.back cut.within (omega arith) cut.before cut.here

pub returns-in-empty-clause-none : goal.returns-in-empty-clause-none
returns-in-empty-clause-none c =
    let cut = c.front_len.ensures in
    cut_nowhere c.args.byte c.args.word.now c.split_at.result.1.now c.front_len.result c.split_at.ensures.back cut.within (omega arith) cut.before
