use Rattle.heap_script.proofs.PrintedScripts.{printed_is}
use Rattle.heap_script.proofs.laws.printed_scripts_are_read.Goals as goal

pub returns : goal.returns
returns c = printed_is
