use Rattle.heap_script.proofs.ScriptLaws.{script_ok, script_from_lines}
use Rattle.heap_script.proofs.laws.scripts_are_read.Goals as goal

pub returns : goal.returns
returns c = λ bytes script. (
  script_ok c.lines_are_read.ensures c.options_are_read.ensures bytes script,
  script_from_lines c.lines_are_read.ensures c.options_are_read.ensures bytes script,
)
