use Rattle.std.proofs.Common.{sym, ◌∙◌, arith}
use Rattle.az_words.proofs.Cutting.{none_left, some_left}
use Rattle.az_words.proofs.Digits.{one_digit, none_there, too_long, no_digit, too_large, all_read}
use Rattle.az_words.proofs.numerals.long_numeral.Goals as goal

pub returns-then-is_empty : goal.returns-then-is_empty
returns-then-is_empty c = none_there c.args.word.now (none_left c.args.word.now c.is_empty.result c.is_empty.ensures c.if-is_empty.true)

pub returns-then-word-gt20 : goal.returns-then-word-gt20
returns-then-word-gt20 c = too_long c.args.word.now (omega arith)

pub returns-then-not-is_ascii_digit : goal.returns-then-not-is_ascii_digit
returns-then-not-is_ascii_digit c = sym (no_digit c.args.word.now c.loop-i.i (omega arith) (sym c.is_ascii_digit.ensures.value ∙ c.if-not-is_ascii_digit.true))

pub returns-in-None : goal.returns-in-None
returns-in-None c =
    sym (too_large c.args.word.now c.loop-i.i c.loop-i.value (omega arith) (sym c.is_ascii_digit.ensures.value ∙ c.if-not-is_ascii_digit.false) c.loop-i.invariant (sym c.in-None.ensures))

pub loop-i-preserved : goal.loop-i-preserved
loop-i-preserved c =
    one_digit c.args.word.now c.loop-i.i c.loop-i.value c.in-Some.more (omega arith) (sym c.is_ascii_digit.ensures.value ∙ c.if-not-is_ascii_digit.false) c.loop-i.invariant (sym c.in-Some.ensures)

pub returns : goal.returns
returns c =
    all_read c.args.word.now c.loop-i.i c.loop-i.value (omega arith) (some_left c.args.word.now c.is_empty.result c.is_empty.ensures c.if-is_empty.false) (omega arith) c.loop-i.invariant
