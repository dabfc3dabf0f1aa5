use Rattle.az_words.proofs.NumeralLaws.{numeral_ok, numeral_from}
use Rattle.az_words.proofs.laws.numerals_are_read.Goals as goal

pub returns : goal.returns
returns c = λ word n. (numeral_ok word n, numeral_from word n)
