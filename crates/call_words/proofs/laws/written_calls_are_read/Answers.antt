use Rattle.call_words.proofs.WrittenActs.{asked}
use Rattle.call_words.proofs.laws.written_calls_are_read.Goals as goal

pub returns : goal.returns
returns c = λ most a left fits named few none. asked most a left fits named few none
