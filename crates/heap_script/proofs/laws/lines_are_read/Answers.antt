use Rattle.heap_script.proofs.LineLaws.{line_ok, line_from}
use Rattle.heap_script.proofs.laws.lines_are_read.Goals as goal

pub returns : goal.returns
returns c = λ words line. (line_ok c.numbers_are_read.ensures c.names_are_read.ensures c.arguments_are_read.ensures words line, line_from c.numbers_are_read.ensures c.names_are_read.ensures c.arguments_are_read.ensures words line)
