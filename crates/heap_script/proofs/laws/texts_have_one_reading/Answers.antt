use Rattle.heap_script.proofs.Readings.{one_reading}
use Rattle.heap_script.proofs.laws.texts_have_one_reading.Goals as goal

pub returns : goal.returns
returns c = λ bytes. one_reading c.scripts_are_read.ensures c.scripts_are_refused.ensures bytes
