use Rattle.call_words.proofs.WrittenActs.{plain}
use Rattle.call_words.proofs.laws.written_calls_are_plain.Goals as goal

pub returns : goal.returns
returns c = λ a fits. plain a fits
