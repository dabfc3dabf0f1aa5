use Rattle.history_text.proofs.OneText.{one_text}
use Rattle.history_text.proofs.laws.texts_have_one_reading.Goals as goal

pub returns : goal.returns
returns c = one_text c.lines_have_one_reading.ensures
