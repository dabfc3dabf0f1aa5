use Rattle.heap_script.proofs.OptionLaws.{settings_refused, settings_refused_from}
use Rattle.heap_script.proofs.laws.options_are_refused.Goals as goal

pub returns : goal.returns
returns c = λ words cause. (settings_refused c.numbers_are_read.ensures words cause, settings_refused_from c.numbers_are_read.ensures words cause)
