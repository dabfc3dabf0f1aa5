use Rattle.call_words.proofs.Spelled.{act_spelled}
use Rattle.call_words.proofs.laws.read_calls_are_spelled.Goals as goal

pub returns : goal.returns
returns c = λ most name words a left h. act_spelled most name words a left h
