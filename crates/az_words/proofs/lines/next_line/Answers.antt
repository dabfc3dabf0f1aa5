use Rattle.std.proofs.Common.{arith}
use Rattle.az_words.proofs.Cutting.{line_cut, line_rest, some_left}
use Rattle.az_words.proofs.TextLines.{text_cut, text_end}
use Rattle.az_words.proofs.lines.next_line.Goals as goal

pub returns-in-empty-clause-some : goal.returns-in-empty-clause-some
returns-in-empty-clause-some c =
    let cut = c.line_len.ensures in
    line_rest c.args.bytes.now c.split_at.result.1.now c.line_len.result c.split_at.ensures.back cut.within (omega arith)
    (some_left c.args.bytes.now c.is_empty.result c.is_empty.ensures c.if-is_empty.false) cut.before

pub returns-in-len1-up-clause-some : goal.returns-in-len1-up-clause-some
returns-in-len1-up-clause-some c =
    let cut = c.line_len.ensures in
    line_cut c.args.bytes.now c.split_at.result.0.now c.split_at.result.1.now c.line_len.result c.split_at.ensures.front c.split_at.ensures.back cut.within (omega arith) cut.before cut.here

pub returns-in-empty-clause-text : goal.returns-in-empty-clause-text
returns-in-empty-clause-text c = λ text. text_end c.args.bytes.now c.split_at.result.1.now text (omega arith)

pub returns-in-len1-up-clause-text : goal.returns-in-len1-up-clause-text
returns-in-len1-up-clause-text c =
    let cut = c.line_len.ensures in
    λ text. text_cut c.args.bytes.now c.split_at.result.0.now c.split_at.result.1.now c.line_len.result text c.split_at.ensures.front c.split_at.ensures.back cut.within (omega arith) cut.here
