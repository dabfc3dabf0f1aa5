use Rattle.heap_script.proofs.OptionLaws.{setting_ok, setting_from}
use Rattle.heap_script.proofs.laws.options_are_read.Goals as goal

pub returns : goal.returns
returns c = λ words set. (setting_ok c.numbers_are_read.ensures words set, setting_from c.numbers_are_read.ensures words set)
