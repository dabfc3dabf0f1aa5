use Rattle.heap_script.proofs.RefusalLaws.{refusal_ok, refusal_from}
use Rattle.heap_script.proofs.laws.scripts_are_refused.Goals as goal

pub returns : goal.returns
returns c = λ bytes refusal. (
  refusal_ok c.lines_are_read.ensures c.lines_are_refused.ensures c.options_are_read.ensures c.options_are_refused.ensures bytes refusal,
  refusal_from c.lines_are_read.ensures c.lines_are_refused.ensures c.options_are_read.ensures c.options_are_refused.ensures bytes refusal,
)
