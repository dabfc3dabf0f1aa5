use Rattle.history_text.proofs.LineLaws.{one_reading}
use Rattle.history_text.proofs.laws.lines_have_one_reading.Goals as goal

pub returns : goal.returns
returns c = one_reading c.numbers_are_read.ensures c.arguments_are_read.ensures
