use Rattle.call_words.proofs.Objects.{no_object}
use Rattle.call_words.proofs.memory.object.Goals as goal

pub returns-in_default : goal.returns-in_default
returns-in_default c = no_object c.args.word.now c.in_default.ensures.cases.0
