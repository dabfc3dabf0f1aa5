use Rattle.heap_script.proofs.CauseLaws.{refused_ok, refused_from}
use Rattle.heap_script.proofs.laws.lines_are_refused.Goals as goal

pub returns : goal.returns
returns c = λ words cause. (refused_ok c.numbers_are_read.ensures c.names_are_read.ensures c.arguments_are_read.ensures words cause, refused_from c.numbers_are_read.ensures c.names_are_read.ensures c.arguments_are_read.ensures words cause)
