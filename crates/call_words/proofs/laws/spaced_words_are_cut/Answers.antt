use Rattle.call_words.proofs.PlainWords.{words_are_cut}
use Rattle.call_words.proofs.laws.spaced_words_are_cut.Goals as goal

pub returns : goal.returns
returns c = λ words h. words_are_cut words h
