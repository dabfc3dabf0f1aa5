use Rattle.az_words.proofs.Digits.{Front}
use Rattle.az_words.proofs.numerals.long_numeral.Given as goal

abbrev pub invariant-loop-i : goal.invariant-loop-i
invariant-loop-i l = Front l.word l.i l.value
