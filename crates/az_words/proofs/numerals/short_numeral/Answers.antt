use Rattle.std.proofs.Common.{◌∷◌, [], sym, ◌∙◌, arith}
use Rattle.az_words.proofs.Digits.{digit_alone, no_digit}
use Rattle.az_words.proofs.numerals.short_numeral.Goals as goal

pub returns-then-is_ascii_digit : goal.returns-then-is_ascii_digit
returns-then-is_ascii_digit c = digit_alone c.args.digit c.from.result (sym c.is_ascii_digit.ensures.value ∙ c.if-is_ascii_digit.true) c.from.ensures

pub returns-else-is_ascii_digit : goal.returns-else-is_ascii_digit
returns-else-is_ascii_digit c = sym (no_digit (c.args.digit ∷ []) 0 (omega arith) (sym c.is_ascii_digit.ensures.value ∙ c.if-is_ascii_digit.false))
