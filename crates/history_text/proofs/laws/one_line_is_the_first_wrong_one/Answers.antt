use Rattle.history_text.proofs.OneLine.{one_line}
use Rattle.history_text.proofs.laws.one_line_is_the_first_wrong_one.Goals as goal

pub returns : goal.returns
returns c = one_line
