use Rattle.history_text.proofs.OneText.{read_back}
use Rattle.history_text.proofs.laws.texts_are_read_back.Goals as goal

pub returns : goal.returns
returns c = read_back c.texts_have_one_reading.ensures
