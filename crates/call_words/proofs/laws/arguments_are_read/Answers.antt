use Rattle.call_words.proofs.ArgumentLaws.{asks_ok, asks_from}
use Rattle.call_words.proofs.laws.arguments_are_read.Goals as goal

pub returns : goal.returns
returns c = λ most name words act left. (asks_ok c.numbers_are_read.ensures most name words act left, asks_from c.numbers_are_read.ensures most name words act left)
