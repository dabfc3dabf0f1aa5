use Rattle.az_words.proofs.NumeralLaws.{number_ok, number_from}
use Rattle.az_words.proofs.laws.numbers_are_read.Goals as goal

pub returns : goal.returns
returns c = λ low high word n. (number_ok low high word n, number_from low high word n)
